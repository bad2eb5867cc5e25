use Rattle.std.proofs.Common.{Some, ◌≢◌, ◌+◌, sym, ap, ◌∙◌, subst, arith}
use Rattle.jar_types.specs.declared.entry.Event.TheVariants.{Call as CallEvent}
use Rattle.jar_types.specs.Steps.{changes_at}
use Rattle.version_cells.specs.Standing.{listing_of}
use Rattle.locked_jar.specs.Entering.{HasListed}
use Rattle.locked_jar.proofs.MovingLemmas.{moved_differ, moved_fit}
use Rattle.locked_jar.proofs.RestLemmas.{pending_is, rests_on}
use Rattle.locked_jar.proofs.SameLemmas.{call_calls}
use Rattle.locked_jar.proofs.locked.Locked.call.Goals as goal

pub answer-place-requires-clause-cells : goal.answer-place-requires-clause-cells
answer-place-requires-clause-cells g c =
    let s = g.C.JarCore.state c.self.inside.parts.core in
    let changes = changes_at s (CallEvent c.caller.result c.args.now c.args.op.now) in
    rw c.in-Ok.ensures.ready.1.cells (moved_differ s.bound changes, moved_fit s.bound changes c.self.invariant.counted.cells)

pub invariant_of-self-in-Ok : goal.invariant_of-self-in-Ok
invariant_of-self-in-Ok g c =
    let parts = c.self.inside.parts in
    let s = g.C.JarCore.state parts.core in
    let v = CallEvent c.caller.result c.args.now c.args.op.now in
    let made = c.in-Ok.ensures in
    let ready = c.in-Ok.ready in
    let same = made.same in
    let rest = c.self.invariant in
    let owner = Some c.args.pass.now.view.number in
    let more = call_calls s c.caller.result c.args.now c.args.op.now in
    let listed = subst (λ b. HasListed (listing_of ready.cells.items owner ready.prepared.entry) b c.answer-place.new.self.baton) same.words c.answer-place.ensures.words in
    let within : c.self.inside.calls ≢ c.self.inside.limit = c.if-self.false in
    let calls_are = rest.calls_are in
    let few = rest.few_calls in
    rests_on parts.baton c.answer-place.new.self.baton s (g.C.JarCore.state c.make_call_ready.new.self.core) (g.C.JarCore.state c.answer-place.new.self.core)
    parts.journal.list c.make_call_ready.new.self.journal.list c.answer-place.new.self.journal.list
    parts.pending.list c.make_call_ready.new.self.pending.list c.answer-place.new.self.pending.list owner v ready.prepared.entry ready.cells.items
    made.ready.1.entry made.ready.1.cells same.content same.journal_is same.pending_is listed c.answer-place.ensures.entered
    c.self.inside.calls (c.self.inside.calls + 1) c.self.inside.limit c.answer-place.new.self.pending.list
    (pending_is parts.baton c.answer-place.new.self.baton s (g.C.JarCore.state c.make_call_ready.new.self.core) (g.C.JarCore.state c.answer-place.new.self.core)
    parts.journal.list c.make_call_ready.new.self.journal.list c.answer-place.new.self.journal.list
    parts.pending.list c.make_call_ready.new.self.pending.list c.answer-place.new.self.pending.list owner v ready.prepared.entry ready.cells.items
    made.ready.1.entry made.ready.1.cells same.content same.journal_is same.pending_is listed c.answer-place.ensures.entered)
    (ap (λ n. n + 1) calls_are ∙ sym more)
    (omega (arith, within, calls_are, few, more))
    rest
