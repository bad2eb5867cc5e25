-- What an event changes of the cookies: those that came and left, each as it then stood and why.
-- This jar's own rule: docs/DEFINITIONS.md.
use Rattle.std.specs.Prelude.{ℕ, List, [], ◌++◌, map}
use Rattle.jar_types.specs.declared.cookie.Cookie.{Cookie}
use Rattle.jar_types.specs.declared.change.Cause.TheVariants.{Inserted, Explicit, Overwrite, Expired, Evicted, ExpiredOverwrite}
use Rattle.jar_types.specs.declared.change.Change.{Change}
use Rattle.jar_types.specs.Ids.{text_cmp}
use Rattle.jar_types.specs.Orders.{ascending}

-- the cookies that are left, and the changes that led there, in their order
pub record Changed : Type 0 where
  pub cookies : List Cookie
  pub changes : List Change

-- nothing was changed
abbrev pub unchanged : List Cookie → Changed
unchanged cookies = record { cookies = cookies; changes = [] }

-- the one was done, and then the other
abbrev pub followed : Changed → Changed → Changed
followed first then = record { cookies = then.cookies; changes = first.changes ++ then.changes }

-- the cookie came
abbrev pub inserted : Cookie → Change
inserted c = record { cause = Inserted; cookie = c }

-- a caller took the cookie away
abbrev pub taken_away : Cookie → Change
taken_away c = record { cause = Explicit; cookie = c }

-- the cookie left for another of its id
abbrev pub overwritten : Cookie → Change
overwritten c = record { cause = Overwrite; cookie = c }

-- the cookie left at its expiry
abbrev pub expired : Cookie → Change
expired c = record { cause = Expired; cookie = c }

-- the cookie left where there were too many
abbrev pub evicted : Cookie → Change
evicted c = record { cause = Evicted; cookie = c }

-- the cookie left for another of its id that had expired
abbrev pub overwritten_by_expired : Cookie → Change
overwritten_by_expired c = record { cause = ExpiredOverwrite; cookie = c }

-- the keys of the cookies that changed, ascending, each once
abbrev pub moved_keys : List Change → List (List ℕ)
moved_keys changes = ascending text_cmp (map (λ c. c.cookie.key) changes)
