-- The loading of stored cookies: a key at a time, those that callers wait for first; and when all of the jar is there.
-- This jar's own rule: docs/DEFINITIONS.md.
use Rattle.std.specs.Prelude.{ℕ, List, [], ◌∷◌, ◌++◌, filter, length, slice_get, Bool, true, false, not, ◌&&◌, ◌==◌, bytes_eq, if◌then◌else◌}
use Rattle.std.specs.Prelude.{Option, None, Some, is_none}
use Rattle.std.specs.List.{list_any}
use Rattle.std.specs.Option.{option_or}
use Rattle.jar_types.specs.declared.entry.Own.{Own}
use Rattle.jar_types.specs.declared.entry.Own.TheVariants.{Want, WantAll, Begun, Loaded, Lost, Whole, Taken, Acked, CommitLost}

-- ---- keys

-- the keys whose stored cookies aren't loaded, ascending; those of them that callers wait for, in the order in which they
-- came to be wanted; the one whose load has begun; and those whose load was lost while callers waited
pub record KeyLoads : Type 0 where
  pub unloaded : List (List ℕ)
  pub wanted : List (List ℕ)
  pub begun : Option (List ℕ)
  pub lost : List (List ℕ)

-- these keys aren't loaded, and nobody waits
abbrev pub none_loaded : List (List ℕ) → KeyLoads
none_loaded keys = record { unloaded = keys; wanted = []; begun = None; lost = [] }

-- the key is among these
abbrev pub has_text : List ℕ → List (List ℕ) → Bool
has_text key keys = list_any (bytes_eq key) keys

-- the keys without this one
abbrev pub without_text : List ℕ → List (List ℕ) → List (List ℕ)
without_text key keys = filter (λ other. not (bytes_eq key other)) keys

-- the stored cookies of the key are loaded: of each key that has none too
abbrev pub is_loaded : List ℕ → KeyLoads → Bool
is_loaded key l = not (has_text key l.unloaded)

-- callers wait for the key
abbrev pub is_wanted : List ℕ → KeyLoads → Bool
is_wanted key l = has_text key l.wanted

-- a load of the key that callers waited for was lost
abbrev pub is_marked : List ℕ → KeyLoads → Bool
is_marked key l = has_text key l.lost

-- the one that is there is this key
abbrev pub is_the : List ℕ → Option (List ℕ) → Bool
is_the key None = false
is_the key (Some other) = bytes_eq key other

-- the load of the key has begun
abbrev pub is_begun : List ℕ → KeyLoads → Bool
is_begun key l = is_the key l.begun

-- the key that is loaded next: the one whose load has begun, else the first that is wanted, else the least
abbrev pub next_key : KeyLoads → Option (List ℕ)
next_key l = option_or l.begun (option_or (slice_get l.wanted 0) (slice_get l.unloaded 0))

-- no key is left to load
abbrev pub all_loaded : KeyLoads → Bool
all_loaded l = length l.unloaded == 0

-- the key is wanted, last
abbrev pub with_want : List ℕ → KeyLoads → KeyLoads
with_want key l = record l { wanted = l.wanted ++ key ∷ [] }

-- the load of the key has begun
abbrev pub with_begun : List ℕ → KeyLoads → KeyLoads
with_begun key l = record l { begun = Some key }

-- the key is loaded, and neither wanted nor marked
abbrev pub with_loaded : List ℕ → KeyLoads → KeyLoads
with_loaded key l = record {
  unloaded = without_text key l.unloaded;
  wanted = without_text key l.wanted;
  begun = None;
  lost = without_text key l.lost;
}

-- the keys that are marked where the load of one is lost that is wanted or isn't
abbrev pub marks_where : Bool → List ℕ → List (List ℕ) → List (List ℕ)
marks_where true key lost = lost ++ key ∷ []
marks_where false key lost = lost

-- the load of the key is lost, and a want of it becomes a mark
abbrev pub with_lost : List ℕ → KeyLoads → KeyLoads
with_lost key l = record {
  unloaded = l.unloaded;
  wanted = without_text key l.wanted;
  begun = None;
  lost = marks_where (is_wanted key l) key l.lost;
}

-- the key is no longer marked
abbrev pub without_mark : List ℕ → KeyLoads → KeyLoads
without_mark key l = record l { lost = without_text key l.lost }

-- ---- the whole jar

-- the loading of keys, whether the jar is whole, whether a caller waits for that, and whether a load was lost meanwhile
pub record Loads : Type 0 where
  pub keys : KeyLoads
  pub whole : Bool
  pub all_wanted : Bool
  pub all_lost : Bool

-- a jar in which these keys aren't loaded, and nobody waits
abbrev pub not_whole : List (List ℕ) → Loads
not_whole keys = record { keys = none_loaded keys; whole = false; all_wanted = false; all_lost = false }

-- a load was lost: where all was wanted, that is lost
abbrev pub lost_where : Bool → Loads → Loads
lost_where true l = record l { all_wanted = false; all_lost = true }
lost_where false l = l

-- what the jar does itself makes of the loading
abbrev pub own_loads : Own → Loads → Loads
own_loads (Want key) l = record l { keys = with_want key l.keys }
own_loads WantAll l = record l { all_wanted = true }
own_loads (Begun key) l = record l { keys = with_begun key l.keys }
own_loads (Loaded key cookies) l = record l { keys = with_loaded key l.keys }
own_loads (Lost key) l = lost_where l.all_wanted (record l { keys = with_lost key l.keys })
own_loads (Whole now) l = record l { whole = true; all_wanted = false; all_lost = false }
own_loads Taken l = l
own_loads (Acked place) l = l
own_loads (CommitLost place) l = l

-- whether the loading lets the jar do this itself
abbrev pub may_load : Own → Loads → Bool
may_load (Want key) l = not (is_loaded key l.keys) && (not (is_wanted key l.keys) && not (is_marked key l.keys))
may_load WantAll l = not l.whole && (not l.all_wanted && not l.all_lost)
may_load (Begun key) l = is_none l.keys.begun && is_the key (next_key l.keys)
may_load (Loaded key cookies) l = is_begun key l.keys
may_load (Lost key) l = is_begun key l.keys
may_load (Whole now) l = not l.whole && all_loaded l.keys
may_load Taken l = true
may_load (Acked place) l = true
may_load (CommitLost place) l = true
