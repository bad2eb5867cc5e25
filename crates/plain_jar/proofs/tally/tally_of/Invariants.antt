use Rattle.std.proofs.Common.{◌≡◌, drop}
use Rattle.jar_types.specs.Tallies.{tally_of}
use Rattle.plain_jar.proofs.tally.tally_of.Given as goal

abbrev pub invariant-loop-tally : goal.invariant-loop-tally
invariant-loop-tally l = tally_of l.caller (drop l.tally-index l.tallies) ≡ tally_of l.caller l.tallies
