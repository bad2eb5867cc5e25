-- A text may be cut at either side of a blank.
use Rattle.std.proofs.Common.{◌≡◌, ℕ, ◌+◌, ◌-◌, ◌<◌, true, List, length, get_or, reverse, arith, subst}
use Rattle.std.specs.List.{prefix_len, suffix_len}
use Rattle.std.specs.Str.{IsUtf8, IsCharBoundary}
use Rattle.std.proofs.lemmas.List.{get_or-reverse}
use Rattle.std.proofs.lemmas.List.Sums.{prefix_len_passes, prefix_len-le-length, suffix_len-le-length}
use Rattle.std.proofs.lemmas.Str.{IsCharBoundary-after_ascii}
use Rattle.std.proofs.lemmas.Bool.Decides.{nat_tests}
use Rattle.jar_values.specs.Bytes.{is_blank}

-- a blank is ASCII
blank_small : (byte : ℕ) → is_blank byte ≡ true → byte < 128
blank_small byte blank = grind (arith, nat_tests)

-- behind the blanks in front
pub front_boundary : (text : List ℕ) → IsUtf8 text → 0 < prefix_len is_blank text → IsCharBoundary text (prefix_len is_blank text)
front_boundary text utf8 some =
    let front = prefix_len is_blank text in
    let within = prefix_len-le-length is_blank text in
    let last : front - 1 < front = omega arith in
    let small = blank_small (get_or text (front - 1) 0) (prefix_len_passes is_blank text (front - 1) 0 last) in
    let e : front - 1 + 1 ≡ front = omega arith in
    subst (λ n. IsCharBoundary text n) e (IsCharBoundary-after_ascii text (front - 1) utf8 (omega arith) small)

-- the first of the blanks at the end
pub end_small : (text : List ℕ) → 0 < suffix_len is_blank text → get_or text (length text - suffix_len is_blank text) 0 < 128
end_small text some =
    let end = suffix_len is_blank text in
    let within = suffix_len-le-length is_blank text in
    let last : end - 1 < end = omega arith in
    let small = blank_small (get_or (reverse text) (end - 1) 0) (prefix_len_passes is_blank (reverse text) (end - 1) 0 last) in
    let place = get_or-reverse text (end - 1) 0 (omega arith) in
    let e : length text - 1 - (end - 1) ≡ length text - end = omega arith in
    subst (λ n. get_or text n 0 < 128) e (subst (λ b. b < 128) place small)
