use Rattle.std.proofs.Common.{◌≤◌, length, ap, ◌∙◌, subst}
use Rattle.std.specs.Prelude.{filter_map}
use Rattle.jar_types.specs.Bound.{cell_of}
use Rattle.jar_types.specs.States.{JarState}
use Rattle.locked_jar.proofs.enter.Parts.make_ready.Goals as goal

pub returns-clause-ready : goal.returns-clause-ready
returns-clause-ready g c =
    let made = c.in_ok-prepared.ensures in (
      made.ready,
      record {
        entry = made.entry;
        cells = c.in_ok-cells.ensures
            ∙ (ap (λ (s : JarState). filter_map (λ key. cell_of key s.bound) c.in_ok-prepared.prepared.moved) made.same
            ∙ ap (filter_map (λ key. cell_of key (g.C.JarCore.state c.args.self.now.core).bound)) made.moved);
        room = c.in_ok-reserve.ensures.room;
        row_room = subst (λ n. n ≤ c.reserve-2.new.self.spare) (c.len.ensures ∙ ap length made.rows) c.in_ok-reserve-2.ensures.room;
      },
    )
