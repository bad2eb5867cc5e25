-- New passes are ready, and as many as were made.
use Rattle.std.proofs.Common.{◌≡◌, ◌<◌, ◌≤◌, ℕ, zero, suc, List, [], ◌∷◌, ◌++◌, length, take, refl, sym, ap, subst, ⊎_elim, arith, length-append}
use Rattle.std.proofs.Math.Seq.{take-append_seam}
use Rattle.std.proofs.lemmas.List.{get_or_append_left, get_or_push}
use Rattle.std.proofs.lemmas.Bool.{cases_lt}
use Rattle.atomic_table.specs.Seated.{TableId}
use Rattle.version_cells.specs.Standing.{new_pass_standing, new_passes}
use Rattle.version_cells_uses.specs.Ready.{IsReady, AllReady}

pub new_passes_ready : (t : TableId) (n : ℕ) → AllReady t (new_passes t n)
new_passes_ready t zero i d h = absurd (omega arith)
new_passes_ready t (suc n) i d h = ⊎_elim
    (λ (l : i < length (new_passes t n)). subst (IsReady t) (sym (get_or_append_left (new_passes t n) (new_pass_standing t n ∷ []) d i l)) (new_passes_ready t n i d l))
    (λ (g : length (new_passes t n) ≤ i). let e = length-append (new_passes t n) (new_pass_standing t n ∷ []) in
    subst (IsReady t) (sym (get_or_push (new_passes t n) (new_pass_standing t n) d i (omega arith))) ((refl, refl, refl), refl))
    (cases_lt i (length (new_passes t n)))

pub length_new_passes : (t : TableId) (n : ℕ) → length (new_passes t n) ≡ n
length_new_passes t zero = refl
length_new_passes t (suc n) =
    let e = length-append (new_passes t n) (new_pass_standing t n ∷ []) in let ih = length_new_passes t n in omega arith

-- what stands in a vector of a slice as long as it
pub same_length : {A : Type 0} (n : ℕ) (xs ys : List A) → length xs ≡ n → length (take n (xs ++ ys)) ≡ length xs
same_length n xs ys e = ap length (subst (λ m. take m (xs ++ ys) ≡ xs) e (take-append_seam xs ys))
