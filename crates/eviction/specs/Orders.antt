-- The order in which things go: by rounds, and in a round by access. This jar's own rule:
-- docs/DEFINITIONS.md.
use Rattle.std.specs.Prelude.{ℕ, ◌+◌, List, [], ◌∷◌, Bool, not, filter, if◌then◌else◌}
use Rattle.std.specs.Ordering.{nat_cmp, ordering_then}
use Rattle.std.specs.declared.cmp.Ordering.{Ordering}
use Rattle.jar_types.specs.Orders.{in_order}
use Rattle.jar_types.specs.Plans.{Looks, access_cmp, is_spared, is_stale, key_rounds, jar_rounds}

-- the number of the first round that x is of, from 0; that of the rounds where it is of none
abbrev pub round_of : {X : Type 0} → List (X → Bool) → X → ℕ
round_of [] x = 0
round_of (round ∷ rounds) x = if round x then 0 else round_of rounds x + 1

-- those of earlier rounds first, in a round the least accessed first
abbrev pub plan_cmp : {X : Type 0} → Looks X → List (X → Bool) → X → X → Ordering
plan_cmp l rounds x y = ordering_then (nat_cmp (round_of rounds x) (round_of rounds y)) (access_cmp l x y)

-- what a plan sees of a thing by way of f
abbrev pub seen_by : {X Y : Type 0} → (X → Y) → Looks Y → Looks X
seen_by f l = record {
  access = λ x. l.access (f x);
  creation = λ x. l.creation (f x);
  tie = λ x y. l.tie (f x) (f y);
  priority = λ x. l.priority (f x);
  secure = λ x. l.secure (f x);
}

-- those of a key who aren't spared, in the order in which they go
abbrev pub key_order : {X : Type 0} → Looks X → List X → List X
key_order l xs = in_order (plan_cmp l (key_rounds l)) (filter (λ x. not (is_spared l xs x)) xs)

-- the stale ones of a jar, in the order in which they go
abbrev pub jar_order : {X : Type 0} → Looks X → ℕ → List X → List X
jar_order l now xs = in_order (plan_cmp l (jar_rounds l)) (filter (is_stale l now) xs)
