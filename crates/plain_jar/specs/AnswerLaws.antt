-- What the order of an answer means. RFC 6265, section 5.4, step 2; that the id decides last is this jar's own rule.
use Rattle.std.specs.Prelude.{◌≡◌, ℕ, List, filter}
use Rattle.std.specs.List.Sorted.{IsPermutation, IsSorted}
use Rattle.jar_types.specs.declared.cookie.Cookie.{Cookie}
use Rattle.jar_types.specs.declared.request.Request.{Request}
use Rattle.jar_types.specs.Ids.{RisesById}
use Rattle.jar_types.specs.Answers.{answer_cmp, is_answered, answer}

-- the answer has the cookies that the request gets, none of them before one that comes first, and no other list has
pub record IsOrdered (cookies : List Cookie) (q : Request) (now : ℕ) : Type 0 where
  pub sorted : IsSorted answer_cmp (answer cookies q now)
  pub moved : IsPermutation (filter (is_answered q now) cookies) (answer cookies q now)
  pub only : (list : List Cookie) → IsPermutation (filter (is_answered q now) cookies) list → IsSorted answer_cmp list → list ≡ answer cookies q now

-- answers are ordered wherever the ids of the cookies rise
abbrev pub AnswersAreOrdered : Type 0
AnswersAreOrdered = (cookies : List Cookie) (q : Request) (now : ℕ) → RisesById cookies → IsOrdered cookies q now
