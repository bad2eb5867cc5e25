use Rattle.std.proofs.Common.{◌≡◌, List, length, sym, ap, ◌∙◌, subst}
use Rattle.version_cells.specs.Standing.{PassStanding}
use Rattle.version_cells.specs.Standing.{new_passes}
use Rattle.version_cells_uses.specs.Ready.{AllReady}
use Rattle.version_cells_uses.proofs.ReadyPasses.{new_passes_ready, length_new_passes, same_length}
use Rattle.version_cells_uses.proofs.threads.each_calls.Goals as goal

pub each_named-requires-clause-ready : goal.each_named-requires-clause-ready
each_named-requires-clause-ready g c κs within =
    let cells = c.in_ok-cells.field-0.cells in
    let all : c.as_mut_slice.result.now ≡ new_passes cells c.args.callers = cc (c.as_mut_slice.ensures.value, c.in_ok-cells.ensures.passes) in
    subst (AllReady cells) (sym all) (new_passes_ready cells c.args.callers)

pub returns-clause-all : goal.returns-clause-all
returns-clause-all g c =
    let cells = c.in_ok-cells.field-0.cells in
    let made = length_new_passes cells c.args.callers in
    let was = ap (λ (l : List PassStanding). length l) c.in_ok-cells.ensures.passes in
    let slice = ap (λ (l : List PassStanding). length l) c.as_mut_slice.ensures.value in
    let kept = c.each_named.auto.passes in
    same_length _ c.each_named.new.passes _ (kept ∙ c.as_mut_slice.ensures.len) ∙ kept ∙ slice ∙ was ∙ made
