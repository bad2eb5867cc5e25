use Rattle.std.proofs.Common.{◌≡◌, ap, ◌∙◌}
use Rattle.jar_types.specs.Steps.{call_step}
use Rattle.jar_types.proofs.CountLemmas.{op_room}
use Rattle.plain_jar.proofs.step.call_event.Goals as goal

pub told_all-requires-clause-versions : goal.told_all-requires-clause-versions
told_all-requires-clause-versions c =
    let s = c.args.content.now in
    let room = op_room s c.args.caller c.args.now c.args.op.now c.requires.counted c.requires.room in
    let same : c.stepped.inside.content ≡ (call_step s c.args.caller c.args.now c.args.op.now).state =
    ap (λ t. t.state) (c.stepped.view_is ∙ c.requires.step) in
    rw same room.versions
