-- What a plain jar holds: its state, and the next one. This jar's own rule: docs/DEFINITIONS.md.
use Rattle.std.specs.Prelude.{◌≡◌, ◌<◌, ◌-◌, ◌^◌, false, Option, None, Some}
use Rattle.jar_types.specs.declared.entry.Event.{Event}
use Rattle.jar_types.specs.declared.jar_core.Prepared.{Prepared}
use Rattle.jar_types.specs.States.{JarState}
use Rattle.jar_types.specs.Steps.{after, entry_of, event_of, rows_at}
use Rattle.jar_types.specs.Waits.{takes_memory}

-- the state, and that after the entry that was made ready last; none where that step is taken in place
pub record Contents : Type 0 where
  pub state : JarState
  pub next : Option JarState

-- the next state is the one after the event; where there is none, the event takes no memory, and there is room for its entry
abbrev pub IsNext : Option JarState → JarState → Event → Type 0
IsNext (Some next) s v = next ≡ after s v
IsNext None s v = (takes_memory v ≡ false) × (s.entries < 2 ^ 64 - 1)

-- the entry is the one that its event makes at the state, with its changes of rows, and the next state is the one after it
pub record IsReady (j : Contents) (p : Prepared) : Type 0 where
  pub next : IsNext j.next j.state (event_of p.entry)
  pub made : p.entry ≡ entry_of j.state (event_of p.entry)
  pub rows : p.rows ≡ rows_at j.state (event_of p.entry)
