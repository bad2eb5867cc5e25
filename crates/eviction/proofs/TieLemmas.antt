-- Ties that differ: where they are the places, and in every order of the faces.
use Rattle.std.proofs.Common.{◌≡◌, ◌≢◌, ℕ, zero, suc, ◌+◌, ◌<◌, List, [], ◌∷◌, ◌++◌, Bool, true, false, cond, map, refl, sym, ap, ◌∙◌, subst, arith}
use Rattle.std.specs.Prelude.{nat_eq, nat_lt}
use Rattle.std.specs.List.{AllByRecursion, IsDistinct, range_with_len}
use Rattle.std.specs.List.Sorted.{IsPermutation}
use Rattle.std.specs.Ordering.{nat_cmp}
use Rattle.std.specs.declared.cmp.Ordering.TheVariants.{Less, Equal, Greater}
use Rattle.std.proofs.lemmas.Bool.Decides.{nat_tests}
use Rattle.std.proofs.lemmas.Cmp.{nat_cmp_total}
use Rattle.std.proofs.lemmas.List.{map-append}
use Rattle.std.proofs.lemmas.List.Sorted.{IsPermutation-map}
use Rattle.eviction.specs.declared.face.Face.{Face}
use Rattle.eviction.specs.Faces.{TiesDiffer}
use Rattle.eviction.proofs.MemberLemmas.{weaker}
use Rattle.eviction.proofs.SortLemmas.{Apart, moved_apart}

past_differ : (m n k : ℕ) → m < n → AllByRecursion (λ t. nat_eq m t ≡ false) (range_with_len n k)
past_differ m n zero lt = tt
past_differ m n (suc k) lt = (grind (arith, nat_tests), past_differ m (n + 1) k (omega arith))

range_differs : (n k : ℕ) → IsDistinct nat_eq (range_with_len n k)
unfolding IsDistinct
range_differs n zero = tt
range_differs n (suc k) = (past_differ n (n + 1) k (omega arith), range_differs (n + 1) k)

unequal_by : (b c : Bool) → c ≡ false → cond b Less (cond c Equal Greater) ≢ Equal
unequal_by true c f e = absurd cc
unequal_by false true f e = absurd cc
unequal_by false false f e = absurd cc

unequal : (m n : ℕ) → nat_eq m n ≡ false → nat_cmp m n ≢ Equal
unequal m n f e = unequal_by (nat_lt m n) (nat_eq m n) f e

equal_by : (m n : ℕ) → nat_eq m n ≡ true → nat_cmp m n ≡ Equal
equal_by m n t = grind (arith, nat_tests)

apart_by : (m n : ℕ) (b : Bool) → nat_eq m n ≡ b → nat_cmp m n ≢ Equal → nat_eq m n ≡ false
apart_by m n true e ne = absurd (ne (equal_by m n e))
apart_by m n false e ne = e

all_apart : (ts : List ℕ) → IsDistinct nat_eq ts → Apart nat_cmp_total ts
unfolding IsDistinct
all_apart [] differ = tt
all_apart (t ∷ ts) differ =
    (weaker (λ u. nat_eq t u ≡ false) (λ u. nat_cmp t u ≢ Equal) (λ u f. unequal t u f) ts differ.0, all_apart ts differ.1)

all_differ : (ts : List ℕ) → Apart nat_cmp_total ts → IsDistinct nat_eq ts
unfolding IsDistinct
all_differ [] apart = tt
all_differ (t ∷ ts) apart =
    (weaker (λ u. nat_cmp t u ≢ Equal) (λ u. nat_eq t u ≡ false) (λ u ne. apart_by t u (nat_eq t u) refl ne) ts apart.0, all_differ ts apart.1)

-- and so they do in another order
pub moved_differ : (faces others : List Face) → TiesDiffer faces → IsPermutation faces others → TiesDiffer others
moved_differ faces others differ moved =
    let ties = map (λ f. f.tie) faces in
    let ties' = map (λ f. f.tie) others in
    all_differ ties' (moved_apart nat_cmp_total ties ties' (all_apart ties differ) (IsPermutation-map (λ f. f.tie) faces others moved))

range_suc : (n k : ℕ) → range_with_len n (suc k) ≡ range_with_len n k ++ (n + k) ∷ []
range_suc n zero = let e : n ≡ n + zero = omega arith in ap (λ m. m ∷ []) e
range_suc n (suc k) =
    let e : n + 1 + k ≡ n + suc k = omega arith in
    ap (λ ns. n ∷ ns) (range_suc (n + 1) k ∙ ap (λ m. range_with_len (n + 1) k ++ m ∷ []) e)

range_push : (n k : ℕ) → range_with_len n (k + 1) ≡ range_with_len n k ++ (n + k) ∷ []
range_push n k = let e : k + 1 ≡ suc k = omega arith in ap (range_with_len n) e ∙ range_suc n k

from_zero : (i : ℕ) → i ≡ 0 + i
from_zero i = omega arith

-- one more face has its place as its tie
pub count_more : (faces more : List Face) (f : Face) (i : ℕ) → map (λ f. f.tie) faces ≡ range_with_len 0 i → more ≡ faces ++ f ∷ [] → f.tie ≡ i → map (λ f. f.tie) more ≡ range_with_len 0 (i + 1)
count_more faces more f i e k t =
    ap (map (λ g. g.tie)) k ∙ map-append (λ g. g.tie) faces (f ∷ []) ∙ ap (λ ts. ts ++ f.tie ∷ []) e
    ∙ ap (λ n. range_with_len 0 i ++ n ∷ []) (t ∙ from_zero i) ∙ sym (range_push 0 i)

-- faces whose ties are their places have ties that differ
pub counted_differ : (faces : List Face) (n : ℕ) → map (λ f. f.tie) faces ≡ range_with_len 0 n → TiesDiffer faces
counted_differ faces n e = subst (IsDistinct nat_eq) (sym e) (range_differs 0 n)
