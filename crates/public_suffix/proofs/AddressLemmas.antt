-- The last label of a host.
use Rattle.std.proofs.Common.{Bor, Option, None, Some, MatchOption, length-drop, ◌∙◌, ℕ, ◌-◌, ◌<◌, ◌≤◌, ◌≡◌, true, false, List, length, drop, get_or, ap, arith}
use Rattle.std.specs.Prelude.{◌==◌, not}
use Rattle.std.proofs.lemmas.Bool.Decides.{nat_tests}
use Rattle.std.proofs.lemmas.List.Sums.{suffix_len_is}
use Rattle.std.proofs.lemmas.List.{get_or-drop}
use Rattle.std.proofs.lemmas.Str.Pattern.{NoCharPasses-char}
use Rattle.std.specs.Str.Pattern.{RFindsChar, SplitsAroundMatch}
use Rattle.std.specs.List.{suffix_len}
use Rattle.jar_values.specs.Hosts.{last_label}

not_same : (x y : ℕ) → (x ≡ y → ⊥) → not (x == y) ≡ true
not_same x y other = grind (arith, nat_tests)

same : (x y : ℕ) → x ≡ y → not (x == y) ≡ false
same x y one = grind (arith, nat_tests)

-- the last label is what follows a dot with none after it, or the whole without one
pub last_label-drop : (host : List ℕ) (n : ℕ) → n ≤ length host → ((k : ℕ) → n ≤ k → k < length host → get_or host k 0 ≡ 46 → ⊥) → (0 < n → get_or host (n - 1) 0 ≡ 46) → drop n host ≡ last_label host
last_label-drop host n within none dot =
    let len : suffix_len (λ b. not (b == 46)) host ≡ length host - n =
    suffix_len_is (λ b. not (b == 46)) host n 0 within (λ k from below. not_same (get_or host k 0) 46 (none k from below)) (λ some. same (get_or host (n - 1) 0) 46 (dot some)) in
    let start : n ≡ length host - suffix_len (λ b. not (b == 46)) host = omega arith in
    ap (λ (k : ℕ). drop k host) start

-- the last label is what `rsplit_once` gives after a dot, or the whole without one
pub last_label-rsplit : (host : List ℕ) (r : Option (Bor (List ℕ) × Bor (List ℕ))) → MatchOption r (RFindsChar 46 host None) (λ x. SplitsAroundMatch (RFindsChar 46) host x.0.now x.1.now) → MatchOption r (host ≡ last_label host) (λ x. x.1.now ≡ last_label host)
last_label-rsplit host None none =
    last_label-drop host 0 (omega arith) (λ k _ below. NoCharPasses-char 46 host k none (omega arith) below) (λ some. absurd (omega arith))
last_label-rsplit host (Some x) cut =
    let at = cut.2 in
    cut.4 ∙ last_label-drop host cut.1 (omega arith) (λ k from below dot. NoCharPasses-char 46 (drop cut.1 host) (k - cut.1) at.0 (omega arith) (omega (arith, length-drop cut.1 host)) (get_or-drop cut.1 host (k - cut.1) 0 ∙ ap (λ (n : ℕ). get_or host n 0) (omega arith) ∙ dot)) (λ some. ap (λ (n : ℕ). get_or host n 0) (omega (arith, at.1.ends)) ∙ at.1.byte (omega arith))
