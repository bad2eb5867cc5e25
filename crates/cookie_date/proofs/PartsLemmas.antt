-- The parts of tokens with one more at the end.
use Rattle.std.proofs.Common.{◌≡◌, ℕ, List, [], ◌∷◌, ◌++◌, map, Option, Some, None, refl, ap, ◌∙◌}
use Rattle.std.specs.Borrow.{Bor}
use Rattle.std.proofs.lemmas.List.{map-append}
use Rattle.cookie_date.specs.declared.token.Time.{Time}
use Rattle.cookie_date.specs.declared.parts.Parts.{Parts}
use Rattle.cookie_date.specs.Token.{read_time, read_day, read_month, read_year}
use Rattle.cookie_date.specs.Parts.{Taken, take_here, take_first, parts_of, with_part, with_token}

-- one token more at the end of those from which a part was taken: it is the part where that was
-- missing
abbrev take_last : {A : Type 0} → Taken A → Option A → List ℕ → Taken A
take_last (Some part, left) read token = (Some part, left ++ token ∷ [])
take_last (None, left) (Some part) token = (Some part, left)
take_last (None, left) None token = (None, left ++ token ∷ [])

-- in front or at the end, the token is taken likewise
here_last : {A : Type 0} (first : Option A) (here : List ℕ) (tokens : List (List ℕ)) (later : Taken A) (last : Option A) (token : List ℕ)
    → take_here first here (tokens ++ token ∷ []) (take_last later last token)
    ≡ take_last (take_here first here tokens later) last token
here_last (Some part) here tokens later last token = refl
here_last None here tokens (Some part, left) last token = refl
here_last None here tokens (None, left) (Some part) token = refl
here_last None here tokens (None, left) None token = refl

first_push : {A : Type 0} (read : List ℕ → Option A) (tokens : List (List ℕ)) (token : List ℕ) (last : Option A) → read token ≡ last
    → take_first read (tokens ++ token ∷ []) ≡ take_last (take_first read tokens) last token
first_push read [] token (Some part) e = rw e
first_push read [] token None e = rw e
first_push read (here ∷ tokens) token last e =
    ap (take_here (read here) here (tokens ++ token ∷ [])) (first_push read tokens token last e)
    ∙ here_last (read here) here tokens (take_first read tokens) last token

-- what `next` makes of a part and the tokens left, with one token more
take_push : {A : Type 0} (next : Option A → List (List ℕ) → Parts) (taken : Taken A) (last : Option A) (token : List ℕ)
    → next (take_last taken last token).0 (take_last taken last token).1
    ≡ with_part taken.0 last (λ part. next (Some part) taken.1) (next taken.0 (taken.1 ++ token ∷ []))
take_push next (Some part, left) last token = refl
take_push next (None, left) (Some part) token = refl
take_push next (None, left) None token = refl

-- the parts, where those before the year, the month or the day are settled
abbrev from_year : Option Time → Option ℕ → Option ℕ → List (List ℕ) → Parts
from_year time day month tokens = record { time = time; day = day; month = month; year = (take_first read_year tokens).0 }

abbrev from_month : Option Time → Option ℕ → List (List ℕ) → Parts
from_month time day tokens = let taken = take_first read_month tokens in from_year time day taken.0 taken.1

abbrev from_day : Option Time → List (List ℕ) → Parts
from_day time tokens = let taken = take_first read_day tokens in from_month time taken.0 taken.1

module _ {A : Type 0} (read : List ℕ → Option A) (next : Option A → List (List ℕ) → Parts) (tokens : List (List ℕ)) (token : List ℕ) where
  step : let more = take_first read (tokens ++ token ∷ []) in let taken = take_first read tokens in
      next more.0 more.1 ≡ with_part taken.0 (read token) (λ part. next (Some part) taken.1) (next taken.0 (taken.1 ++ token ∷ []))
  step =
      ap (λ (taken : Taken A). next taken.0 taken.1) (first_push read tokens token (read token) refl)
      ∙ take_push next (take_first read tokens) (read token) token

-- the parts with one token more
pub parts_push : (tokens : List (List ℕ)) (token : List ℕ) → parts_of (tokens ++ token ∷ []) ≡ with_token (parts_of tokens) token
unfolding with_token
parts_push tokens token =
    let time = take_first read_time tokens in
    let day = take_first read_day time.1 in
    let month = take_first read_month day.1 in
    step read_time from_day tokens token
    ∙ ap (λ (other : Parts). with_part time.0 (read_time token) (λ part. from_day (Some part) time.1) other)
    (step read_day (from_month time.0) time.1 token
    ∙ ap (λ (other : Parts). with_part day.0 (read_day token) (λ part. from_month time.0 (Some part) day.1) other)
    (step read_month (from_year time.0 day.0) day.1 token
    ∙ ap (λ (other : Parts). with_part month.0 (read_month token) (λ part. from_year time.0 day.0 (Some part) month.1) other)
    (step read_year (λ year _. record { time = time.0; day = day.0; month = month.0; year = year }) month.1 token)))

-- the tokens with one more, as values
pub tokens_push : (tokens : List (Bor (List ℕ))) (last : Bor (List ℕ))
    → map (λ token. token.now) (tokens ++ last ∷ []) ≡ map (λ token. token.now) tokens ++ last.now ∷ []
tokens_push tokens last = simp map-append
