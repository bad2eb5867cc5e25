use Rattle.std.proofs.Common.{◌≡◌}
use Rattle.std.specs.Prelude.{map, replicate, take}
use Rattle.script_run.specs.Players.{holding_of, sight, view_of}
use Rattle.script_run.specs.Reads.{nothing}
use Rattle.script_run.proofs.players.managers_of.Given as goal

abbrev pub invariant-actors : goal.invariant-actors
invariant-actors l = record {
  holdings : map holding_of l.managers.items ≡ replicate l.actor-index nothing;
  views : map view_of l.managers.items ≡ map sight (take l.actor-index l.actors);
}
