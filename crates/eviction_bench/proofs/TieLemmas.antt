-- Ties that count from 0, one more each time.
use Rattle.std.proofs.Common.{◌≡◌, ℕ, zero, suc, ◌+◌, List, [], ◌∷◌, ◌++◌, refl, sym, ap, ◌∙◌, arith}
use Rattle.std.specs.Prelude.{map}
use Rattle.std.specs.List.{range_with_len}
use Rattle.std.proofs.lemmas.List.{map-append}
use Rattle.eviction.specs.declared.face.Face.{Face}

range_push : (a n : ℕ) → range_with_len a (suc n) ≡ range_with_len a n ++ (a + n) ∷ []
range_push a zero = let e : a ≡ a + 0 = omega arith in ap (λ k. k ∷ []) e
range_push a (suc n) =
    let e : (a + 1) + n ≡ a + suc n = omega arith in
    ap (λ t. a ∷ t) (range_push (a + 1) n ∙ ap (λ k. range_with_len (a + 1) n ++ k ∷ []) e)

pub ties_push : (faces : List Face) (f : Face) (n : ℕ) → map (λ (g : Face). g.tie) faces ≡ range_with_len 0 n → f.tie ≡ n
    → map (λ (g : Face). g.tie) (faces ++ f ∷ []) ≡ range_with_len 0 (n + 1)
ties_push faces f n so_far is =
    let e : n + 1 ≡ suc n = omega arith in
    let z : n ≡ 0 + n = omega arith in
    map-append (λ (g : Face). g.tie) faces (f ∷ []) ∙ ap (λ ts. ts ++ f.tie ∷ []) so_far
    ∙ ap (λ k. range_with_len 0 n ++ k ∷ []) (is ∙ z) ∙ sym (range_push 0 n) ∙ ap (range_with_len 0) (sym e)
