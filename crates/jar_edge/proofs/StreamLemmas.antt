-- Lemmas on the bytes that reads give and writes take.
use Rattle.std.proofs.Common.{◌≡◌, ℕ, ◌+◌, ◌-◌, ◌≤◌, List, ◌++◌, length, take, drop, Option, Some, refl, sym, ◌∙◌, subst, arith}
use Rattle.std.proofs.Math.Seq.{take-add}
use Rattle.std.proofs.lemmas.List.{take-append-drop, take-append-le, drop-drop, take_all, length-drop, length-take}
use Rattle.std.proofs.KnownBytes.{Appends-trans}
use Rattle.std.specs.Io.KnownBytes.{Appends}

-- a slice from a place on is what is left there
pub rest_of : (bytes : List ℕ) (at : ℕ) → take (length bytes - at) (drop at bytes) ≡ drop at bytes
rest_of bytes at = take_all (length bytes - at) (drop at bytes) (simp length-drop (omega arith))

-- a write of the first n of what is to be written goes on where the writes before it stopped
pub appended : (a b c : Option (List ℕ)) (bytes : List ℕ) (done n : ℕ) → Appends a b (take done bytes)
    → Appends b c (take n (take (length bytes - done) (drop done bytes))) → Appends a c (take (done + n) bytes)
appended a b c bytes done n before now =
    let next : Appends b c (take n (drop done bytes)) = rw rest_of at now in
    subst (Appends a c) (sym (take-add done n bytes)) (Appends-trans a b c (take done bytes) (take n (drop done bytes)) before next)

-- the same of the bytes that writes took
pub taken : (a b c bytes : List ℕ) (done n : ℕ) → b ≡ a ++ take done bytes
    → c ≡ b ++ take n (take (length bytes - done) (drop done bytes)) → c ≡ a ++ take (done + n) bytes
taken a b c bytes done n before now = appended (Some a) (Some b) (Some c) bytes done n before now

-- n bytes that were copied to the front of a buffer are its first n
pub front_is_copied : (bytes rest : List ℕ) (n : ℕ) → n ≤ length bytes → take n (take n bytes ++ rest) ≡ take n bytes
front_is_copied bytes rest n within =
    let whole : n ≤ length (take n bytes) = simp length-take (omega arith) in
    take-append-le n (take n bytes) rest whole ∙ take_all n (take n bytes) (simp length-take (omega arith))

-- what is left from a place on is what a read copied of it to the front of a buffer, and what is
-- left behind
pub left_is_copied : (bytes rest : List ℕ) (at n : ℕ) → n ≤ length (drop at bytes)
    → drop at bytes ≡ take n (take n (drop at bytes) ++ rest) ++ drop (at + n) bytes
left_is_copied bytes rest at n within =
    rw (front_is_copied (drop at bytes) rest n within, ← drop-drop n at bytes, take-append-drop) refl
