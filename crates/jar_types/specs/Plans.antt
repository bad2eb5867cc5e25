-- Which of too many things go: one at a time, in rounds. This jar's own rule: docs/DEFINITIONS.md.
use Rattle.std.specs.Prelude.{ℕ, zero, suc, ◌+◌, ◌-◌, List, [], ◌∷◌, length, filter, Option, None, Some}
use Rattle.std.specs.Prelude.{Bool, true, false, not, ◌&&◌, nat_le, nat_lt, count_by, if◌then◌else◌}
use Rattle.std.specs.Ordering.{nat_cmp, ordering_then, is_lt, is_eq}
use Rattle.std.specs.declared.cmp.Ordering.{Ordering}
use Rattle.jar_values.specs.declared.attributes.Priority.{Priority}
use Rattle.jar_values.specs.declared.attributes.Priority.TheVariants.{Low, Medium, High}
use Rattle.jar_types.specs.declared.limits.TheConstants.{MOST_OF_KEY, LEFT_OF_KEY, LOW_QUOTA, MEDIUM_QUOTA, HIGH_QUOTA}
use Rattle.jar_types.specs.declared.limits.TheConstants.{MOST_OF_JAR, LEFT_OF_JAR, STALE_AFTER}

-- what a plan sees of a thing; the tie tells apart what was accessed and created alike
pub record Looks (X : Type 0) : Type 0 where
  pub access : X → ℕ
  pub creation : X → ℕ
  pub tie : X → X → Ordering
  pub priority : X → Priority
  pub secure : X → Bool

-- the least accessed first, then the earlier created, then by the tie
abbrev pub access_cmp : {X : Type 0} → Looks X → X → X → Ordering
access_cmp l x y =
    ordering_then (nat_cmp (l.access x) (l.access y))
    (ordering_then (nat_cmp (l.creation x) (l.creation y)) (l.tie x y))

-- the lesser of two, the first where neither is
abbrev pub lesser : {X : Type 0} → (X → X → Ordering) → X → Option X → X
lesser cmp x None = x
lesser cmp x (Some y) = if is_lt (cmp y x) then y else x

-- the least of a list
abbrev pub least : {X : Type 0} → (X → X → Ordering) → List X → Option X
least cmp [] = None
least cmp (x ∷ xs) = Some (lesser cmp x (least cmp xs))

-- ---- who goes from a key

-- how many of a priority are spared
abbrev pub quota : Priority → ℕ
quota Low = LOW_QUOTA
quota Medium = MEDIUM_QUOTA
quota High = HIGH_QUOTA

abbrev pub is_low : Priority → Bool
is_low Low = true
is_low _ = false

abbrev pub is_medium : Priority → Bool
is_medium Medium = true
is_medium _ = false

abbrev pub is_high : Priority → Bool
is_high High = true
is_high _ = false

abbrev pub same_priority : Priority → Priority → Bool
same_priority Low p = is_low p
same_priority Medium p = is_medium p
same_priority High p = is_high p

-- y is of x's priority, and more accessed
abbrev pub is_ahead : {X : Type 0} → Looks X → X → X → Bool
is_ahead l x y = same_priority (l.priority x) (l.priority y) && is_lt (access_cmp l x y)

-- x is one of the most accessed of its priority, up to the quota
abbrev pub is_spared : {X : Type 0} → Looks X → List X → X → Bool
is_spared l xs x = nat_lt (count_by (is_ahead l x) xs) (quota (l.priority x))

-- the rounds of a key: Low ones that aren't Secure, Low, Medium ones that aren't Secure, High ones
-- that aren't Secure, Medium, High
abbrev pub key_rounds : {X : Type 0} → Looks X → List (X → Bool)
key_rounds l =
    (λ x. is_low (l.priority x) && not (l.secure x)) ∷ (λ x. is_low (l.priority x))
    ∷ (λ x. is_medium (l.priority x) && not (l.secure x)) ∷ (λ x. is_high (l.priority x) && not (l.secure x))
    ∷ (λ x. is_medium (l.priority x)) ∷ (λ x. is_high (l.priority x)) ∷ []

-- ---- who goes from the jar

-- x wasn't accessed for so long that it may go
abbrev pub is_stale : {X : Type 0} → Looks X → ℕ → X → Bool
is_stale l now x = nat_lt (l.access x + STALE_AFTER) now

-- the rounds of the jar: those that aren't Secure, and then all
abbrev pub jar_rounds : {X : Type 0} → Looks X → List (X → Bool)
jar_rounds l = (λ x. not (l.secure x)) ∷ (λ x. true) ∷ []

-- ---- one at a time

-- what is there, else the other
abbrev pub or_else : {X : Type 0} → Option X → Option X → Option X
or_else None other = other
or_else (Some x) other = Some x

-- the least accessed of the first round that has one
abbrev pub first_of : {X : Type 0} → Looks X → List (X → Bool) → List X → Option X
first_of l [] xs = None
first_of l (round ∷ rounds) xs = or_else (least (access_cmp l) (filter round xs)) (first_of l rounds xs)

-- who goes next from a key of these
abbrev pub next_of_key : {X : Type 0} → Looks X → List X → Option X
next_of_key l xs = first_of l (key_rounds l) (filter (λ x. not (is_spared l xs x)) xs)

-- who goes next from a jar of these
abbrev pub next_of_jar : {X : Type 0} → Looks X → ℕ → List X → Option X
next_of_jar l now xs = first_of l (jar_rounds l) (filter (is_stale l now) xs)

-- the others
abbrev pub others : {X : Type 0} → Looks X → X → List X → List X
others l x xs = filter (λ y. not (is_eq (access_cmp l x y))) xs

-- one, and then more
abbrev pub and_more : {X : Type 0} → Option X → (X → List X) → List X
and_more None more = []
and_more (Some x) more = x ∷ more x

-- who goes where up to n go, one at a time, each the next of those that are left then
abbrev pub going : {X : Type 0} → Looks X → (List X → Option X) → ℕ → List X → List X
going l next zero xs = []
going l next (suc n) xs = and_more (next xs) (λ x. going l next n (others l x xs))

-- the plan of a key: none of up to 180 go; of more they go one at a time until 150 are left
abbrev pub key_plan : {X : Type 0} → Looks X → List X → List X
key_plan l xs =
    if nat_le (length xs) MOST_OF_KEY then [] else going l (next_of_key l) (length xs - LEFT_OF_KEY) xs

-- the plan of a jar: none of up to 3,300 go; of more they go one at a time until 3,000 are left
abbrev pub jar_plan : {X : Type 0} → Looks X → ℕ → List X → List X
jar_plan l now xs =
    if nat_le (length xs) MOST_OF_JAR then [] else going l (next_of_jar l now) (length xs - LEFT_OF_JAR) xs
