use Rattle.std.proofs.Common.{◌∙◌, sym}
use Rattle.canonical_cookie.proofs.RowLemmas.{sound_numbers}
use Rattle.canonical_cookie.proofs.stored.from_row.Goals as goal

pub cookie_in-requires : goal.cookie_in-requires
cookie_in-requires c = sound_numbers c.args.row.now (sym c.is_sound_row.ensures ∙ c.if-not-is_sound_row.false)
