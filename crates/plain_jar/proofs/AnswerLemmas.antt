-- The order of an answer: it is total, and cookies of different ids stand apart in it.
use Rattle.std.proofs.Common.{◌≡◌, ◌≢◌, ℕ, List, [], ◌∷◌, length, sym, ap, ◌∙◌}
use Rattle.std.specs.Prelude.{filter}
use Rattle.std.specs.List.{AllByRecursion}
use Rattle.std.specs.List.Sorted.{IsStrictlySortedBy}
use Rattle.std.specs.Cmp.{IsTotalOrder}
use Rattle.std.specs.Ordering.{ordering_then, nat_cmp}
use Rattle.std.specs.declared.cmp.Ordering.{Ordering}
use Rattle.std.specs.declared.cmp.Ordering.TheVariants.{Less, Equal, Greater}
use Rattle.std.proofs.lemmas.Cmp.{then_total, back_total, on_total, nat_cmp_total}
use Rattle.std.proofs.lemmas.List.Kept.{IsStrictlySortedBy-filter}
use Rattle.jar_types.specs.declared.cookie.Cookie.{Cookie}
use Rattle.jar_types.specs.declared.request.Request.{Request}
use Rattle.jar_types.specs.Ids.{cookie_cmp, RisesById}
use Rattle.jar_types.specs.Answers.{answer_cmp, is_answered, answer}
use Rattle.jar_types.proofs.RisingLemmas.{cookie_total}
use Rattle.plain_jar.specs.AnswerLaws.{AnswersAreOrdered}
use Rattle.plain_jar.proofs.SortLemmas.{Apart, in_order_rises, in_order_moves, rises_sorted, one_order}

pub answer_total : IsTotalOrder answer_cmp
answer_total =
    then_total (back_total (on_total (λ c. length c.path) nat_cmp_total)) (then_total (on_total (λ c. c.creation) nat_cmp_total) cookie_total)

last_decides : (v w : Ordering) → ordering_then v (ordering_then w Less) ≢ Equal
last_decides Less w e = absurd cc
last_decides Greater w e = absurd cc
last_decides Equal Less e = absurd cc
last_decides Equal Equal e = absurd cc
last_decides Equal Greater e = absurd cc

apart_from_ids : (c d : Cookie) → cookie_cmp c d ≡ Less → answer_cmp c d ≢ Equal
apart_from_ids c d e tied =
    let v = nat_cmp (length d.path) (length c.path) in
    let w = nat_cmp c.creation d.creation in
    last_decides v w (sym (ap (λ u. ordering_then v (ordering_then w u)) e) ∙ tied)

all_apart : (c : Cookie) (cookies : List Cookie) → AllByRecursion (λ d. cookie_cmp c d ≡ Less) cookies → AllByRecursion (λ d. answer_cmp c d ≢ Equal) cookies
all_apart c [] all = tt
all_apart c (d ∷ ds) all = (apart_from_ids c d all.0, all_apart c ds all.1)

rising_apart : (cookies : List Cookie) → RisesById cookies → Apart answer_total cookies
unfolding IsStrictlySortedBy
rising_apart [] rises = tt
rising_apart (c ∷ cs) rises = (all_apart c cs rises.0, rising_apart cs rises.1)

pub found_apart : (cookies : List Cookie) (q : Request) (now : ℕ) → RisesById cookies → Apart answer_total (filter (is_answered q now) cookies)
found_apart cookies q now rises =
    rising_apart (filter (is_answered q now) cookies) (IsStrictlySortedBy-filter cookie_cmp (is_answered q now) cookies rises)

pub ordered : AnswersAreOrdered
ordered cookies q now rises =
    let found = filter (is_answered q now) cookies in
    let apart = found_apart cookies q now rises in record {
      sorted = rises_sorted answer_total (answer cookies q now) (in_order_rises answer_total found apart);
      moved = in_order_moves answer_total found;
      only = λ list moved sorted. one_order answer_total found list apart moved sorted;
    }
