-- The parts of a date among its tokens, after RFC 6265, section 5.1.1.
use Rattle.std.specs.Prelude.{ℕ, ◌<◌, ◌≤◌, List, [], ◌∷◌, Option, Some, None, IfSome}
use Rattle.cookie_date.specs.declared.parts.Parts.{Parts}
use Rattle.cookie_date.specs.Token.{read_time, read_day, read_month, read_year}

-- a part, or none where no token can be it, and the tokens that are left for the other parts
abbrev pub Taken : Type 0 → Type 0
Taken A = Option A × List (List ℕ)

-- one token more in front of those from which a part was taken: it is the part, or it is left
abbrev pub take_here : {A : Type 0} → Option A → List ℕ → List (List ℕ) → Taken A → Taken A
take_here (Some part) token tokens later = (Some part, tokens)
take_here None token tokens later = (later.0, token ∷ later.1)

-- the first token that can be the part, and the tokens without it
abbrev pub take_first : {A : Type 0} → (List ℕ → Option A) → List (List ℕ) → Taken A
take_first read [] = (None, [])
take_first read (token ∷ tokens) = take_here (read token) token tokens (take_first read tokens)

-- the parts of these tokens: the time is the first token that can be one, the day the first of the
-- other tokens that can be one, then likewise the month and the year
abbrev pub parts_of : List (List ℕ) → Parts
parts_of tokens =
    let time = take_first read_time tokens in
    let day = take_first read_day time.1 in
    let month = take_first read_month day.1 in
    let year = take_first read_year month.1 in
    record { time = time.0; day = day.0; month = month.0; year = year.0 }

-- ---- that no public clause cites

-- the month and the year are in range
abbrev pub FitParts : Parts → Type 0
FitParts parts = IfSome parts.month (λ month. month ≤ 12) × IfSome parts.year (λ year. year < 10_000)

-- the parts with one more, where it was missing and this token is it, else as the other has them
abbrev pub with_part : {A : Type 0} → Option A → Option A → (A → Parts) → Parts → Parts
with_part None (Some part) set other = set part
with_part None None set other = other
with_part (Some found) read set other = other

-- the parts with one token more: the first missing part that it can be
unfoldable pub with_token : Parts → List ℕ → Parts
with_token parts token =
    with_part parts.time (read_time token) (λ time. record parts { time = Some time })
    (with_part parts.day (read_day token) (λ day. record parts { day = Some day })
    (with_part parts.month (read_month token) (λ month. record parts { month = Some month })
    (with_part parts.year (read_year token) (λ year. record parts { year = Some year }) parts)))
