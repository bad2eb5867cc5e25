use Rattle.std.proofs.Common.{◌≡◌, ap, rules}
use Rattle.std.specs.Prelude.{filter}
use Rattle.std.specs.Ordering.{is_lt}
use Rattle.std.proofs.lemmas.List.Sorted.{ranks_by, answers_always}
use Rattle.jar_types.specs.Plans.{is_stale, jar_rounds}
use Rattle.eviction.specs.Candidates.{candidate_looks}
use Rattle.eviction.specs.Orders.{plan_cmp}
use Rattle.eviction.proofs.GoingLemmas.{plan_total}
use Rattle.eviction.proofs.FaceLemmas.{candidate_total}
use Rattle.eviction.proofs.PlanLemmas.{sorted_jar, stand_jar}
use Rattle.eviction.proofs.jar.jar_order.Goals as goal

pub returns-clause-stand : goal.returns-clause-stand
returns-clause-stand c =
    let from : c.keep_stale.new.candidates.items ≡ filter (is_stale candidate_looks c.args.now) c.in_ok-going.going.items = c.keep_stale.ensures in
    stand_jar c.args.faces.now c.args.now c.in_ok-going.going.items c.keep_stale.new.candidates.items c.sort_unstable_by.new.self.items
    c.in_ok-going.ensures.places from c.sort_unstable_by.ensures.permutation

pub returns-clause-order : goal.returns-clause-order
returns-clause-order c =
    let rounds = jar_rounds candidate_looks in
    let from : c.keep_stale.new.candidates.items ≡ filter (is_stale candidate_looks c.args.now) c.in_ok-going.going.items = c.keep_stale.ensures in
    let sorted =
    c.sort_unstable_by.ensures.sorted (λ x y. is_lt (plan_cmp candidate_looks rounds x y)) (ranks_by (plan_total candidate_looks rounds candidate_total) (λ x. x))
    (answers_always _ _ _ (λ f a r f' k. let e : r ≡ plan_cmp candidate_looks rounds a.0.now a.1.0.now = search rules in ap is_lt e)) in
    sorted_jar c.args.faces.now c.args.now c.in_ok-going.going.items c.keep_stale.new.candidates.items c.sort_unstable_by.new.self.items
    c.requires c.in_ok-going.ensures.faces from c.sort_unstable_by.ensures.permutation sorted
