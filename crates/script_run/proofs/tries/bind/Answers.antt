use Rattle.std.proofs.Common.{◌∙◌}
use Rattle.std.specs.Prelude.{None, slice_index_or}
use Rattle.script_run.specs.Players.{run_of}
use Rattle.script_run.specs.Rounds.{rules_of}
use Rattle.script_run.proofs.TryLemmas.{bind_keyed, bind_meant, bind_tried, manager_there, view_same}
use Rattle.script_run.proofs.PlayerLemmas.{ok_of}
use Rattle.script_run.proofs.tries.bind.Goals as goal

pub bind_op-requires : goal.bind_op-requires
bind_op-requires g c =
    manager_there c.args.players.now.managers c.args.script.now.actors c.args.a c.requires.playing.views c.requires.renders

pub call-requires-clause-keyed : goal.call-requires-clause-keyed
call-requires-clause-keyed g c =
    bind_keyed (rules_of c.args.script.now c.args.jar.now.vault.stored.hosts) c.in_ok-bind_op.field-0 (slice_index_or c.args.players.now.managers c.args.a None)
    (manager_there c.args.players.now.managers c.args.script.now.actors c.args.a c.requires.playing.views c.requires.renders) c.in_ok-bind_op.ensures

pub call-requires-clause-meant : goal.call-requires-clause-meant
call-requires-clause-meant g c =
    bind_meant c.in_ok-bind_op.field-0 (slice_index_or c.args.players.now.managers c.args.a None)
    (manager_there c.args.players.now.managers c.args.script.now.actors c.args.a c.requires.playing.views c.requires.renders) c.in_ok-bind_op.ensures

pub returns-clause-tried : goal.returns-clause-tried
returns-clause-tried g c =
    ok_of c.call.result (λ called. called ∙ bind_tried c.args.script.now c.args.a (run_of c.args.jar.now.locked.jar c.args.jar.now.vault.kept c.args.players.now) c.in_ok-bind_op.field-0
    (slice_index_or c.args.players.now.managers c.args.a None)
    (manager_there c.args.players.now.managers c.args.script.now.actors c.args.a c.requires.playing.views c.requires.renders) c.in_ok-bind_op.ensures
    (view_same c.args.players.now.managers c.args.script.now.actors c.args.a c.requires.playing.views)) c.call.ensures.called
