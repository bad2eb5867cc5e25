-- The text may be cut behind its blanks in front.
use Rattle.std.proofs.Common.{◌≡◌, ◌<◌, ◌∙◌, ap, subst, sym, ℕ}
use Rattle.std.specs.List.{prefix_len}
use Rattle.std.specs.Str.{IsCharBoundary}
use Rattle.jar_values.specs.Bytes.{is_blank}
use Rattle.set_cookie_line.proofs.BoundaryLemmas.{front_boundary}
use Rattle.set_cookie_line.proofs.blanks.without_front.Goals as goal

pub range_from-requires : goal.range_from-requires
range_from-requires c =
    let start : c.front_blanks-start.result ≡ prefix_len is_blank c.args.text.now
    = c.front_blanks-start.ensures ∙ ap (prefix_len is_blank) c.as_bytes.ensures.value in
    subst (λ (n : ℕ). 0 < n → IsCharBoundary c.args.text.now n) (sym start) (front_boundary c.args.text.now c.utf8.text)
