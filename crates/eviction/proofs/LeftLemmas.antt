-- What is left where some go: who isn't one of them, and so many fewer.
use Rattle.std.proofs.Common.{◌≡◌, ◌≢◌, ℕ, zero, suc, ◌+◌, List, [], ◌∷◌, Bool, true, false, cond, inl, inr, length, take, refl, sym, ap, ◌∙◌, subst, arith}
use Rattle.std.specs.Prelude.{filter, not, ◌||◌}
use Rattle.std.specs.List.{AllByRecursion, list_any}
use Rattle.std.specs.Cmp.{IsTotalOrder}
use Rattle.std.specs.Ordering.{is_eq}
use Rattle.std.specs.declared.cmp.Ordering.{Ordering}
use Rattle.std.specs.declared.cmp.Ordering.TheVariants.{Less, Equal, Greater}
use Rattle.std.proofs.lemmas.Cmp.{tied_itself}
use Rattle.eviction.proofs.MemberLemmas.{Member, every_member, weaker, kept_member}
use Rattle.eviction.proofs.SortLemmas.{Apart, Rises, kept_apart, apart_same, flipped}
use Rattle.eviction.proofs.GoingLemmas.{every_kept}

equal_from : (w : Ordering) → is_eq w ≡ true → w ≡ Equal
equal_from Less e = absurd cc
equal_from Equal e = refl
equal_from Greater e = absurd cc

unequal_from : (w : Ordering) → w ≢ Equal → is_eq w ≡ false
unequal_from Less ne = refl
unequal_from Equal ne = absurd (ne refl)
unequal_from Greater ne = refl

either_at : {X : Type 0} (p q : X → Bool) (x : X) (xs : List X) (b c : Bool) → p x ≡ b → q x ≡ c → filter (λ y. not (p y || q y)) xs ≡ filter (λ y. not (q y)) (filter (λ y. not (p y)) xs)
    → cond (not (b || c)) (x ∷ filter (λ y. not (p y || q y)) xs) (filter (λ y. not (p y || q y)) xs) ≡ filter (λ y. not (q y)) (cond (not b) (x ∷ filter (λ y. not (p y)) xs) (filter (λ y. not (p y)) xs))
either_at p q x xs true c e f rest = rest
either_at p q x xs false true e f rest =
    rest ∙ sym (ap (λ d. cond (not d) (x ∷ filter (λ y. not (q y)) (filter (λ y. not (p y)) xs)) (filter (λ y. not (q y)) (filter (λ y. not (p y)) xs))) f)
either_at p q x xs false false e f rest =
    ap (λ ys. x ∷ ys) rest ∙ sym (ap (λ d. cond (not d) (x ∷ filter (λ y. not (q y)) (filter (λ y. not (p y)) xs)) (filter (λ y. not (q y)) (filter (λ y. not (p y)) xs))) f)

-- who fails both tests
neither : {X : Type 0} (p q : X → Bool) (xs : List X) → filter (λ y. not (p y || q y)) xs ≡ filter (λ y. not (q y)) (filter (λ y. not (p y)) xs)
neither p q [] = refl
neither p q (x ∷ xs) = either_at p q x xs (p x) (q x) refl refl (neither p q xs)

pub take_all : {X : Type 0} (P : X → Type 0) (n : ℕ) (xs : List X) → AllByRecursion P xs → AllByRecursion P (take n xs)
take_all P zero xs all = tt
take_all P (suc n) [] all = tt
take_all P (suc n) (x ∷ xs) all = (all.0, take_all P n xs all.1)

or_true : (b : Bool) → (b || true) ≡ true
or_true true = refl
or_true false = refl

module _ {X : Type 0} {S : X → X → Ordering} (o : IsTotalOrder S) where
  -- a front of a rising list rises
  pub take_rises : (n : ℕ) (xs : List X) → Rises o xs → Rises o (take n xs)
  take_rises zero xs up = tt
  take_rises (suc n) [] up = tt
  take_rises (suc n) (x ∷ xs) up = (take_all (λ y. S x y ≡ Less) n xs up.0, take_rises n xs up.1)

  untied : (x y z : X) → x ≡ z → S z y ≢ Equal → not (is_eq (S y x)) ≡ true
  untied x y z e ne = ap not (unequal_from (S y x) (λ tied. ne (flipped o y z Equal (ap (S y) (sym e) ∙ tied))))

  one_fewer : (x : X) (xs : List X) → Apart o xs → Member xs x → length (filter (λ y. not (is_eq (S y x))) xs) + 1 ≡ length xs
  one_fewer x [] apart i = absurd i
  one_fewer x (z ∷ zs) apart (inl e) =
      let left = λ (y : X). not (is_eq (S y x)) in
      let gone : left z ≡ false = ap (λ w. not (is_eq (S z w))) e ∙ ap (λ w. not (is_eq w)) (tied_itself o z) in
      let stay = every_kept left zs (weaker (λ y. S z y ≢ Equal) (λ y. left y ≡ true) (λ y ne. untied x y z e ne) zs apart.0) in
      let all : filter left (z ∷ zs) ≡ zs = ap (λ b. cond b (z ∷ filter left zs) (filter left zs)) gone ∙ stay in
      omega (arith, ap length all)
  one_fewer x (z ∷ zs) apart (inr i) =
      let left = λ (y : X). not (is_eq (S y x)) in
      let ne = every_member (λ y. S z y ≢ Equal) zs x apart.0 i in
      let stays : left z ≡ true = ap not (unequal_from (S z x) ne) in
      let all : filter left (z ∷ zs) ≡ z ∷ filter left zs = ap (λ b. cond b (z ∷ filter left zs) (filter left zs)) stays in
      omega (arith, ap length all, one_fewer x zs apart.1 i)

  still_there : (g : X) (xs gs : List X) → AllByRecursion (λ h. S g h ≢ Equal) gs → AllByRecursion (Member xs) gs → AllByRecursion (Member (filter (λ y. not (is_eq (S y g))) xs)) gs
  still_there g xs [] apart all = tt
  still_there g xs (h ∷ hs) apart all =
      (kept_member (λ y. not (is_eq (S y g))) xs h all.0 (untied g h g refl apart.0), still_there g xs hs apart.1 all.1)

  all_true : (xs : List X) → AllByRecursion (λ x. true ≡ true) xs
  all_true [] = tt
  all_true (x ∷ xs) = (refl, all_true xs)

  -- where some go, so many fewer are left
  pub fewer_left : (gs xs : List X) → Apart o gs → Apart o xs → AllByRecursion (Member xs) gs → length (filter (λ x. not (list_any (λ y. is_eq (S x y)) gs)) xs) + length gs ≡ length xs
  fewer_left [] xs apart apart' all =
      let same = every_kept (λ x. not false) xs (all_true xs) in omega (arith, ap length same)
  fewer_left (g ∷ gs) xs apart apart' all =
      let left = λ (y : X). not (is_eq (S y g)) in
      let first = one_fewer g xs apart' all.0 in
      let rest = fewer_left gs (filter left xs) apart.1 (kept_apart o left xs apart') (still_there g xs gs apart.0 all.1) in
      omega (arith, first, rest, ap length (neither (λ x. is_eq (S x g)) (λ x. list_any (λ y. is_eq (S x y)) gs) xs))

  pub any_there : (z : X) (gs : List X) → Member gs z → list_any (λ y. is_eq (S z y)) gs ≡ true
  any_there z [] i = absurd i
  any_there z (g ∷ gs) (inl e) =
      ap (λ b. b || list_any (λ y. is_eq (S z y)) gs) (ap (λ w. is_eq (S z w)) (sym e) ∙ ap is_eq (tied_itself o z))
  any_there z (g ∷ gs) (inr i) = ap (λ b. is_eq (S z g) || b) (any_there z gs i) ∙ or_true (is_eq (S z g))

  not_itself : {T : X → X → Ordering} (t : IsTotalOrder T) (g h : X) → T g h ≡ Less → g ≢ h
  not_itself {T} t g h less same =
      let itself = tied_itself t g in
      let e : T g g ≡ Less = subst (λ w. T g w ≡ Less) (sym same) less in absurd cc

  later_apart : {T : X → X → Ordering} (t : IsTotalOrder T) (xs : List X) (g : X) (gs : List X) → Apart o xs → Member xs g → AllByRecursion (Member xs) gs → AllByRecursion (λ h. T g h ≡ Less) gs → AllByRecursion (λ h. S g h ≢ Equal) gs
  later_apart t xs g [] apart i all less = tt
  later_apart t xs g (h ∷ hs) apart i all less =
      ((λ tied. not_itself t g h less.0 (apart_same o xs g h apart i all.0 tied)), later_apart t xs g hs apart i all.1 less.1)

  -- a row that rises in another order, of elements that are apart, has none twice
  pub row_apart : {T : X → X → Ordering} (t : IsTotalOrder T) (xs gs : List X) → Apart o xs → AllByRecursion (Member xs) gs → Rises t gs → Apart o gs
  row_apart t xs [] apart all up = tt
  row_apart t xs (g ∷ gs) apart all up = (later_apart t xs g gs apart all.0 all.1 up.0, row_apart t xs gs apart all.1 up.1)
