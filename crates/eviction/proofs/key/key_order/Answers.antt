use Rattle.std.proofs.Common.{◌≡◌, sym, ap, subst, rules}
use Rattle.std.specs.Ordering.{is_lt}
use Rattle.std.proofs.lemmas.List.Sorted.{ranks_by, answers_always}
use Rattle.std.specs.Prelude.{filter, not}
use Rattle.jar_types.specs.Plans.{access_cmp, is_spared, key_rounds}
use Rattle.eviction.specs.Candidates.{candidate_looks}
use Rattle.eviction.specs.Orders.{plan_cmp}
use Rattle.eviction.specs.Spared.{Descends}
use Rattle.eviction.proofs.GoingLemmas.{plan_total}
use Rattle.eviction.proofs.FaceLemmas.{candidate_total, descending_total}
use Rattle.eviction.proofs.PlanLemmas.{sorted_descends, sorted_key, stand_key}
use Rattle.eviction.proofs.key.key_order.Goals as goal

pub unspared-requires : goal.unspared-requires
unspared-requires c =
    let faces = c.args.faces.now in
    let cs = c.in_ok-all.all.items in
    let all = c.sort_unstable_by.new.self.items in
    let sorted =
    c.sort_unstable_by.ensures.sorted (λ x y. is_lt (access_cmp candidate_looks y x)) (ranks_by descending_total (λ x. x))
    (answers_always _ _ _ (λ f a r f' k. let e : r ≡ access_cmp candidate_looks a.1.0.now a.0.now = search rules in ap is_lt e)) in
    subst Descends (sym c.deref.ensures.value) (sorted_descends faces cs all c.requires c.in_ok-all.ensures.faces c.sort_unstable_by.ensures.permutation sorted)

pub returns-clause-stand : goal.returns-clause-stand
returns-clause-stand c =
    let from = subst (λ xs. c.in_ok-going.going.items ≡ filter (λ d. not (is_spared candidate_looks xs d)) xs) c.deref.ensures.value c.in_ok-going.ensures in
    stand_key c.args.faces.now c.in_ok-all.all.items c.sort_unstable_by.new.self.items c.in_ok-going.going.items c.sort_unstable_by-2.new.self.items
    c.in_ok-all.ensures.places c.sort_unstable_by.ensures.permutation from c.sort_unstable_by-2.ensures.permutation

pub returns-clause-order : goal.returns-clause-order
returns-clause-order c =
    let from = subst (λ xs. c.in_ok-going.going.items ≡ filter (λ d. not (is_spared candidate_looks xs d)) xs) c.deref.ensures.value c.in_ok-going.ensures in
    let rounds = key_rounds candidate_looks in
    let sorted =
    c.sort_unstable_by-2.ensures.sorted (λ x y. is_lt (plan_cmp candidate_looks rounds x y)) (ranks_by (plan_total candidate_looks rounds candidate_total) (λ x. x))
    (answers_always _ _ _ (λ f a r f' k. let e : r ≡ plan_cmp candidate_looks rounds a.0.now a.1.0.now = search rules in ap is_lt e)) in
    sorted_key c.args.faces.now c.in_ok-all.all.items c.sort_unstable_by.new.self.items c.in_ok-going.going.items c.sort_unstable_by-2.new.self.items
    c.requires c.in_ok-all.ensures.faces c.sort_unstable_by.ensures.permutation from c.sort_unstable_by-2.ensures.permutation sorted
