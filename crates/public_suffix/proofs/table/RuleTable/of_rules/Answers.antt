use Rattle.std.proofs.Common.{◌≡◌, ap, subst, rules}
use Rattle.std.specs.Prelude.{◌&&◌}
use Rattle.std.specs.Cmp.Lexicographic.{slice_cmp}
use Rattle.std.specs.List.Sorted.{IsPermutation}
use Rattle.std.specs.Ordering.{is_lt, nat_cmp}
use Rattle.std.specs.Str.{bytes_eq}
use Rattle.std.proofs.lemmas.Cmp.{nat_list_cmp_total}
use Rattle.std.proofs.lemmas.List.Sorted.{ranks_by, answers_always}
use Rattle.public_suffix.specs.Steps.{rule_steps}
use Rattle.public_suffix.specs.Tables.{same_mark}
use Rattle.public_suffix.proofs.NarrowLemmas.{moved_any}
use Rattle.public_suffix.proofs.table.RuleTable.of_rules.Goals as goal

pub returns : goal.returns
returns c =
    let list = c.sort_unstable_by.new.self.items in
    let sorted =
    c.sort_unstable_by.ensures.sorted (λ x y. is_lt (slice_cmp nat_cmp (rule_steps x) (rule_steps y))) (ranks_by nat_list_cmp_total rule_steps)
    (answers_always _ _ _ (λ f a r f' k. let e : r ≡ slice_cmp nat_cmp (rule_steps a.0.now) (rule_steps a.1.0.now) = search rules in ap is_lt e)) in
    let moved : IsPermutation c.args.rules.now list = subst (λ xs. IsPermutation xs list) c.in_ok-sorted.ensures c.sort_unstable_by.ensures.permutation in
    (sorted, λ mark text. moved_any (λ rule. same_mark rule.mark mark && bytes_eq rule.text text) c.args.rules.now list moved)
