-- The text may be cut before its blanks at the end.
use Rattle.std.proofs.Common.{◌≡◌, ◌-◌, ◌<◌, ◌∙◌, ap, length, subst, sym, arith, ℕ}
use Rattle.std.specs.List.{suffix_len, slice_index}
use Rattle.std.proofs.lemmas.List.Sums.{suffix_len-le-length}
use Rattle.jar_values.specs.Bytes.{is_blank}
use Rattle.set_cookie_line.proofs.BoundaryLemmas.{end_small}
use Rattle.set_cookie_line.proofs.blanks.without_end.Goals as goal

pub overflow_sub-end : goal.overflow_sub-end
overflow_sub-end c =
    let blanks : c.end_blanks.result ≡ suffix_len is_blank c.args.text.now
    = c.end_blanks.ensures ∙ ap (suffix_len is_blank) c.as_bytes.ensures.value in
    omega (arith, blanks, suffix_len-le-length is_blank c.args.text.now)

pub range-requires-clause-end_boundary : goal.range-requires-clause-end_boundary
range-requires-clause-end_boundary c =
    let blanks : c.end_blanks.result ≡ suffix_len is_blank c.args.text.now
    = c.end_blanks.ensures ∙ ap (suffix_len is_blank) c.as_bytes.ensures.value in (
      omega arith,
      λ before high.
          let some : 0 < suffix_len is_blank c.args.text.now = omega (arith, blanks, before) in
          let small : slice_index c.args.text.now (length c.args.text.now - c.end_blanks.result) < 128
          = subst (λ (n : ℕ). slice_index c.args.text.now (length c.args.text.now - n) < 128) (sym blanks) (end_small c.args.text.now some) in
          omega (arith, small, high),
    )
