use Rattle.std.proofs.Common.{None, ap, ◌∙◌, subst}
use Rattle.jar_types.specs.declared.entry.Event.TheVariants.{Jar as JarEvent}
use Rattle.jar_types.specs.Steps.{changes_at}
use Rattle.version_cells.specs.Standing.{BatonStanding, listing_of}
use Rattle.locked_jar.specs.Entering.{HasListed}
use Rattle.locked_jar.proofs.MovingLemmas.{moved_differ, moved_fit}
use Rattle.locked_jar.proofs.RestLemmas.{listed_for_none, pending_is, rests_on, want_waits}
use Rattle.locked_jar.proofs.locked.Locked.want.Goals as goal

pub enter-requires-clause-cells : goal.enter-requires-clause-cells
enter-requires-clause-cells g c =
    let s = g.C.JarCore.state c.self.inside.parts.core in
    let changes = changes_at s (JarEvent c.in_ok-own.own) in
    rw c.in_ok-ready.ensures.ready.1.cells (moved_differ s.bound changes, moved_fit s.bound changes c.self.invariant.counted.cells)

pub invariant_of-self-2 : goal.invariant_of-self-2
invariant_of-self-2 g c =
    let parts = c.self.inside.parts in
    let s = g.C.JarCore.state parts.core in
    let v = JarEvent c.in_ok-own.own in
    let made = c.in_ok-ready.ensures in
    let ready = c.in_ok-ready.ready in
    let same = made.same in
    let owner = None in
    let free = ap (λ (b : BatonStanding). b.view.permit) same.words ∙ c.self.invariant.no_permit in
    let waits = pending_is parts.baton c.enter.new.self.baton s (g.C.JarCore.state c.make_own_ready.new.self.core) (g.C.JarCore.state c.enter.new.self.core)
    parts.journal.list c.make_own_ready.new.self.journal.list c.enter.new.self.journal.list
    parts.pending.list c.make_own_ready.new.self.pending.list c.enter.new.self.pending.list owner v ready.prepared.entry ready.cells.items
    made.ready.1.entry made.ready.1.cells same.content same.journal_is same.pending_is
    (subst (λ b. HasListed (listing_of ready.cells.items owner ready.prepared.entry) b c.enter.new.self.baton) same.words (listed_for_none c.make_own_ready.new.self.baton c.enter.new.self.baton ready.cells.items ready.prepared.entry c.enter.ensures.words free))
    c.enter.ensures.entered in
    rests_on parts.baton c.enter.new.self.baton s (g.C.JarCore.state c.make_own_ready.new.self.core) (g.C.JarCore.state c.enter.new.self.core)
    parts.journal.list c.make_own_ready.new.self.journal.list c.enter.new.self.journal.list
    parts.pending.list c.make_own_ready.new.self.pending.list c.enter.new.self.pending.list owner v ready.prepared.entry ready.cells.items
    made.ready.1.entry made.ready.1.cells same.content same.journal_is same.pending_is
    (subst (λ b. HasListed (listing_of ready.cells.items owner ready.prepared.entry) b c.enter.new.self.baton) same.words (listed_for_none c.make_own_ready.new.self.baton c.enter.new.self.baton ready.cells.items ready.prepared.entry c.enter.ensures.words free))
    c.enter.ensures.entered
    c.self.inside.calls c.self.inside.calls c.self.inside.limit c.enter.new.self.pending.list
    (waits ∙ want_waits s c.args.what.now c.in_ok-own.own parts.pending.list c.in_ok-own.ensures)
    c.self.invariant.calls_are c.self.invariant.few_calls c.self.invariant
