-- What calls wait for, and why a core refuses an event, at worked values. This jar's own rule:
-- docs/DEFINITIONS.md.
use Rattle.std.proofs.Common.{◌≡◌, ℕ, List, [], ◌∷◌, true, false, None, Some, refl}
use Rattle.jar_types.proofs.LoadFacts.{a, b, get}
use Rattle.jar_types.specs.declared.entry.Event.{Event}
use Rattle.jar_types.specs.declared.entry.Event.TheVariants.{Call as CallEvent, Jar as JarEvent}
use Rattle.jar_types.specs.declared.entry.Own.TheVariants.{Want, Taken}
use Rattle.jar_types.specs.declared.jar_core.Awaited.TheVariants as awaited
use Rattle.jar_types.specs.declared.jar_core.CoreRefusal.TheVariants.{Pending, NotYet, NoMemory}
use Rattle.jar_types.specs.declared.op.Op.TheVariants.{Bind, Get, All, Clear, Post, Hear}
use Rattle.jar_types.specs.Loads.{Loads, not_whole}
use Rattle.jar_types.specs.States.{JarState, opening}
use Rattle.jar_types.specs.Waits.{Refuses, is_awaited, waits}

-- a jar in which b.test isn't loaded, one without stored hosts, and a whole one
abbrev unloaded : JarState
unloaded = opening (b ∷ [])

abbrev empty : JarState
empty = opening []

abbrev whole : JarState
whole = record empty { loads = record (not_whole []) { whole = true } }

-- a jar in which a load of b.test was lost while a caller waited for it, or for all
abbrev marked : JarState
marked = record unloaded { loads = record (not_whole (b ∷ [])) { keys = record (not_whole (b ∷ [])).keys { lost = b ∷ [] } } }

abbrev all_lost : JarState
all_lost = record unloaded { loads = record (not_whole (b ∷ [])) { all_lost = true } }

abbrev getting : Event
getting = CallEvent 0 5 (Get get)

-- ---- what an event waits for

-- a key that isn't loaded, and the whole jar
for_a_key : waits unloaded getting ≡ Some (Pending (awaited.Key b))
for_a_key = refl

for_all : (waits empty (CallEvent 0 5 All) ≡ Some (Pending awaited.All)) × (waits unloaded (CallEvent 0 5 Clear) ≡ Some (Pending awaited.All))
for_all = (refl, refl)

-- nothing, where it is there, where its load was lost, and where the op needs no cookies
for_nothing : (waits empty getting ≡ None) × (waits whole (CallEvent 0 5 All) ≡ None) × (waits marked getting ≡ None)
    × (waits all_lost (CallEvent 0 5 All) ≡ None) × (waits unloaded (CallEvent 0 5 (Bind b)) ≡ None) × (waits unloaded (CallEvent 0 5 Post) ≡ None)
    × (waits unloaded (JarEvent (Want b)) ≡ None)
for_nothing = (refl, refl, refl, refl, refl, refl, refl)

-- a mark of a key is none of the whole jar, and the other way round
marks_apart : (waits marked (CallEvent 0 5 All) ≡ Some (Pending awaited.All)) × (waits all_lost getting ≡ Some (Pending (awaited.Key b)))
marks_apart = (refl, refl)

-- whether a caller waits
abbrev wanting : Loads
wanting = record (not_whole (a ∷ b ∷ [])) { keys = record (not_whole (a ∷ b ∷ [])).keys { wanted = b ∷ [] } }

awaits : (is_awaited wanting (awaited.Key b) ≡ true) × (is_awaited wanting (awaited.Key a) ≡ false) × (is_awaited wanting awaited.All ≡ false)
    × (is_awaited (record wanting { all_wanted = true }) awaited.All ≡ true)
awaits = (refl, refl, refl, refl)

-- ---- why an event is refused

refused_for_a_key : Refuses unloaded getting (Pending (awaited.Key b))
refused_for_a_key = refl

-- not for another key, for all, or for posts
not_for_another : Refuses unloaded getting (Pending (awaited.Key a)) → ⊥
not_for_another h = let e : Some (Pending (awaited.Key b)) ≡ Some (Pending (awaited.Key a)) = h in absurd cc

not_for_all : Refuses unloaded getting (Pending awaited.All) → ⊥
not_for_all h = let e : Some (Pending (awaited.Key b)) ≡ Some (Pending awaited.All) = h in absurd cc

not_for_posts : Refuses unloaded getting (NotYet 0) → ⊥
not_for_posts h = let e : Some (Pending (awaited.Key b)) ≡ Some (NotYet 0) = h in absurd cc

-- nothing is awaited where the key is loaded, or was lost
not_loaded : Refuses empty getting (Pending (awaited.Key b)) → ⊥
not_loaded h = let e : None ≡ Some (Pending (awaited.Key b)) = h in absurd cc

not_lost : Refuses marked getting (Pending (awaited.Key b)) → ⊥
not_lost h = let e : None ≡ Some (Pending (awaited.Key b)) = h in absurd cc

-- memory may be wanting for an entry, and for the text of a key; not where all is awaited, and not
-- for a batch
memory : Refuses empty getting NoMemory × Refuses unloaded getting NoMemory
memory = ((refl, refl), (refl, refl))

no_memory_for_all : Refuses unloaded (CallEvent 0 5 All) NoMemory → ⊥
no_memory_for_all h = let e : false ≡ true = h.0 in absurd cc

no_memory_for_batches : Refuses empty (JarEvent Taken) NoMemory → ⊥
no_memory_for_batches h = let e : false ≡ true = h.1 in absurd cc
