use Rattle.jar_types.specs.Journals.{stored_keys}
use Rattle.store_vault.specs.Loading.{rules_of}
use Rattle.shared_jar.proofs.EndingLemmas.{opening_ended}
use Rattle.shared_jar.proofs.HoldingLemmas.{opened_beside}
use Rattle.shared_jar.proofs.OpeningLemmas.{opening_jar, two_popped}
use Rattle.shared_jar.proofs.begin.assembled.Goals as goal

pub invariant_of-result-clause-is : goal.invariant_of-result-clause-is
invariant_of-result-clause-is g c =
    let parts = c.args.parts in
    opening_jar (rules_of parts.stored c.args.callers parts.locked.jar.limit) parts.cells
    parts.locked.jar parts.cutter parts.stored.rises
    c.requires.bounded c.requires.few c.requires.locked c.requires.cutter

pub invariant_of-result-clause-ended : goal.invariant_of-result-clause-ended
invariant_of-result-clause-ended g c =
    let parts = c.args.parts in
    opening_ended parts.locked.jar parts.cells
    (stored_keys (rules_of parts.stored c.args.callers parts.locked.jar.limit))
    parts.locked.jar.limit c.requires.locked

pub returns-clause-beside : goal.returns-clause-beside
returns-clause-beside g c =
    let parts = c.args.parts in
    let rules = rules_of parts.stored c.args.callers parts.locked.jar.limit in
    rw c.new.ensures (opened_beside rules parts.cells (stored_keys rules) parts.locked.jar.limit
    parts.locked.jar c.requires.locked)

pub returns-clause-passes : goal.returns-clause-passes
returns-clause-passes g c =
    two_popped c.args.parts.cells c.args.callers c.args.parts.passes.items c.pop.new.self.items
    c.pop-2.new.self.items c.in-Some-Some.loader c.in-Some-Some.committer
    c.requires.passes c.in-Some-Some.ensures.items c.in-Some-Some.ensures'.items
