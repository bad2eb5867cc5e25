use Rattle.std.proofs.Common.{◌≡◌, ap, ◌∙◌, subst, rules}
use Rattle.std.specs.Prelude.{filter}
use Rattle.std.specs.List.Sorted.{IsPermutation}
use Rattle.std.specs.Ordering.{is_lt}
use Rattle.std.proofs.lemmas.List.Sorted.{ranks_by, answers_always}
use Rattle.jar_types.specs.Answers.{answer_cmp, is_answered}
use Rattle.plain_jar.proofs.AnswerLemmas.{answer_total, found_apart}
use Rattle.plain_jar.proofs.SortLemmas.{one_order}
use Rattle.plain_jar.proofs.answer.answer.Goals as goal

pub returns : goal.returns
returns c =
    let cookies = c.args.cookies.now in
    let gets = is_answered c.args.request.now c.args.now in
    let found = filter gets cookies in
    let list = c.sort_unstable_by.new.self.items in
    let sorted =
    c.sort_unstable_by.ensures.sorted (λ x y. is_lt (answer_cmp x y)) (ranks_by answer_total (λ x. x))
    (answers_always _ _ _ (λ f a r f' k. let e : r ≡ answer_cmp a.0.now a.1.0.now = search rules in ap is_lt e)) in
    let from : c.in_ok-listed.listed.items ≡ found = c.in_ok-listed.ensures ∙ ap (filter gets) c.as_slice.ensures.value in
    let moved : IsPermutation found list = subst (λ xs. IsPermutation xs list) from c.sort_unstable_by.ensures.permutation in
    one_order answer_total found list (found_apart cookies c.args.request.now c.args.now c.as_slice.ensures.rises) moved sorted
