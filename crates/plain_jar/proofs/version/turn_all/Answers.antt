use Rattle.std.proofs.Common.{◌≡◌, ◌≤◌, get_or, sym, ap, ◌∙◌, arith}
use Rattle.std.proofs.lemmas.Grind.{common_steps}
use Rattle.std.specs.Prelude.{slice_set}
use Rattle.std.proofs.lemmas.List.Edits.{map_over_more}
use Rattle.jar_types.specs.Bound.{turned}
use Rattle.jar_types.proofs.CountLemmas.{all_at}
use Rattle.plain_jar.proofs.version.turn_all.Goals as goal

pub turn-requires : goal.turn-requires
turn-requires c =
    let list = c.args.bound.now in
    let i = c.loop-key.key-index in
    let same : c.key-item.result ≡ get_or list i c.key-item.result = grind (arith, common_steps) in
    let least = all_at (λ b. b.version ≤ 18446744073709551614) list i c.key-item.result c.requires c.loop-key-test.true same in
    rw (sym c.key-item.is) (omega (arith, least))

pub loop-key-preserved : goal.loop-key-preserved
loop-key-preserved c =
    let f = turned c.args.changes.now in
    let list = c.loop-key.bound in
    let i = c.loop-key.key-index in
    ap (slice_set list i) (c.turn.ensures ∙ ap f (sym c.key-item.is))
    ∙ map_over_more f c.args.bound.now list i c.key-item.result (omega arith) c.loop-key.invariant c.key-item.is
