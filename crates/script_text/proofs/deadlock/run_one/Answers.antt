use Rattle.std.proofs.Common.{◌≡◌, ℕ, List, ◌<◌, ◌∙◌, ap, sym, arith, Some, length, slice_get, slice_index, true, false}
use Rattle.std.proofs.lemmas.Option.{slice_get_within}
use Rattle.script_text.specs.Deadlocks.{one_on, steps_at, waits, waits_for, steps_left, post_counts}
use Rattle.script_text.proofs.PostLemmas.{length-post_counts, posts_before-few, post_counts-at}
use Rattle.script_text.proofs.DeadlockLemmas.{run_on, run_waits, run_ends, stand_on, moves_on, steps_left-set}
use Rattle.script_text.proofs.deadlock.run_one.Goals as goal

pub make_step-requires-clause-count : goal.make_step-requires-clause-count
make_step-requires-clause-count c =
    omega (arith, ap length c.loop-step.invariant.1.counted, length-post_counts c.args.actors.now c.loop-step.places c.loop-step.invariant.1.many)

pub make_step-requires-clause-few_steps : goal.make_step-requires-clause-few_steps
make_step-requires-clause-few_steps c = omega (arith, c.in-Some.ensures.few)

pub make_step-requires-clause-few_posts : goal.make_step-requires-clause-few_posts
make_step-requires-clause-few_posts c =
    let at = c.loop-step in
    let actors = c.args.actors.now in
    let a = c.args.a in
    let here : slice_index at.counts a ≡ slice_index (post_counts actors at.places) a = ap (λ (l : List ℕ). slice_index l a) at.invariant.1.counted in
    omega (arith, here, post_counts-at actors at.places a at.invariant.1.many, posts_before-few (steps_at actors a) (slice_index at.places a), c.in-Some.ensures.few)

pub loop-step-smaller : goal.loop-step-smaller
loop-step-smaller c =
    let at = c.loop-step in
    let actors = c.args.actors.now in
    let a = c.args.a in
    let next : slice_get (steps_at actors a) (slice_index at.places a) ≡ Some c.in-Some.step.now = sym c.in-Some.ensures.value in
    let lt : slice_index at.places a < length (steps_at actors a) = slice_get_within (steps_at actors a) (slice_index at.places a) c.in-Some.step.now next in
    let less : steps_left actors (one_on at.places a) < steps_left actors at.places = omega (arith, steps_left-set actors at.places a at.invariant.1.many lt) in
    rw c.make_step.ensures.places less

pub loop-step-preserved : goal.loop-step-preserved
loop-step-preserved c =
    let at = c.loop-step in
    let actors = c.args.actors.now in
    let a = c.args.a in
    let step = c.in-Some.step.now in
    let next : slice_get (steps_at actors a) (slice_index at.places a) ≡ Some step = sym c.in-Some.ensures.value in
    let free : waits actors at.places step.what ≡ false =
    ap (λ (l : List ℕ). waits_for l step.what) (sym at.invariant.1.counted) ∙ (sym c.if-waits.ensures) in
    rw (c.make_step.ensures.places, c.make_step.ensures.counts) (
      run_on actors at.places a step at.invariant.1.many next free ∙ at.invariant.0,
      stand_on actors at.places at.counts a step at.invariant.1 next,
      moves_on actors at.moved c.args.places.now at.places a step at.invariant.1.many next at.invariant.2,
    )

pub returns-then-waits-clause-runs : goal.returns-then-waits-clause-runs
returns-then-waits-clause-runs c =
    let at = c.loop-step in
    let actors = c.args.actors.now in
    let step = c.in-Some.step.now in
    let wait : waits actors at.places step.what ≡ true =
    ap (λ (l : List ℕ). waits_for l step.what) (sym at.invariant.1.counted) ∙ (sym c.if-waits.ensures) in
    sym (run_waits actors at.places c.args.a step (sym c.in-Some.ensures.value) wait) ∙ at.invariant.0

pub returns-in_default-clause-runs : goal.returns-in_default-clause-runs
returns-in_default-clause-runs c =
    let at = c.loop-step in
    sym (run_ends c.args.actors.now at.places c.args.a (sym c.in_default.ensures.value)) ∙ at.invariant.0
