use Rattle.std.proofs.Common.{◌≡◌, take}
use Rattle.jar_types.proofs.journal.Journal.copy.Given as goal

abbrev pub invariant-loop-entry : goal.invariant-loop-entry
invariant-loop-entry l = l.copies.list ≡ take l.entry-index l.self.list
