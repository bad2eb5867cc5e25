use Rattle.std.proofs.Common.{Some, ◌∙◌, subst}
use Rattle.jar_types.specs.declared.entry.Event.TheVariants.{Jar as JarEvent}
use Rattle.jar_types.specs.Steps.{changes_at}
use Rattle.version_cells.specs.Standing.{listing_of}
use Rattle.locked_jar.specs.Entering.{HasListed}
use Rattle.locked_jar.proofs.MovingLemmas.{moved_differ, moved_fit}
use Rattle.locked_jar.proofs.RestLemmas.{ending_waits, own_waits, pending_is, rests_on}
use Rattle.locked_jar.proofs.locked.Locked.end_batch.Goals as goal

pub add_own-requires-clause-cells : goal.add_own-requires-clause-cells
add_own-requires-clause-cells g c =
    let s = g.C.JarCore.state c.self.inside.parts.core in
    let changes = changes_at s (JarEvent c.args.own) in
    rw c.make_end_ready-ready.ensures.ready.1.cells (moved_differ s.bound changes, moved_fit s.bound changes c.self.invariant.counted.cells)

pub invariant_of-self : goal.invariant_of-self
invariant_of-self g c =
    let parts = c.self.inside.parts in
    let s = g.C.JarCore.state parts.core in
    let v = JarEvent c.args.own in
    let made = c.make_end_ready-ready.ensures in
    let ready = c.make_end_ready-ready.result in
    let same = made.same in
    let owner = Some c.args.cutter.now.view.number in
    let waits = pending_is parts.baton c.add_own.new.self.baton s (g.C.JarCore.state c.make_end_ready-ready.new.self.core) (g.C.JarCore.state c.add_own.new.self.core)
    parts.journal.list c.make_end_ready-ready.new.self.journal.list c.add_own.new.self.journal.list
    parts.pending.list c.make_end_ready-ready.new.self.pending.list c.add_own.new.self.pending.list owner v ready.prepared.entry ready.cells.items
    made.ready.1.entry made.ready.1.cells same.content same.journal_is same.pending_is
    (subst (λ b. HasListed (listing_of ready.cells.items owner ready.prepared.entry) b c.add_own.new.self.baton) same.words c.add_own.ensures.words)
    c.add_own.ensures.entered in
    rests_on parts.baton c.add_own.new.self.baton s (g.C.JarCore.state c.make_end_ready-ready.new.self.core) (g.C.JarCore.state c.add_own.new.self.core)
    parts.journal.list c.make_end_ready-ready.new.self.journal.list c.add_own.new.self.journal.list
    parts.pending.list c.make_end_ready-ready.new.self.pending.list c.add_own.new.self.pending.list owner v ready.prepared.entry ready.cells.items
    made.ready.1.entry made.ready.1.cells same.content same.journal_is same.pending_is
    (subst (λ b. HasListed (listing_of ready.cells.items owner ready.prepared.entry) b c.add_own.new.self.baton) same.words c.add_own.ensures.words)
    c.add_own.ensures.entered
    c.self.inside.calls c.self.inside.calls c.self.inside.limit c.add_own.new.self.pending.list
    (waits ∙ own_waits s c.args.own parts.pending.list (ending_waits c.args.own c.requires.stands.1))
    c.self.invariant.calls_are c.self.invariant.few_calls c.self.invariant
