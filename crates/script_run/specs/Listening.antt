-- What a listener is told, over the entries of a journal and not over a queue. This jar's own rule:
-- docs/DEFINITIONS.md.
use Rattle.std.specs.Prelude.{ℕ, ◌≡◌, List, ◌∷◌, ◌++◌, true, Some}
use Rattle.std.specs.List.{list_all}
use Rattle.jar_types.specs.declared.change.Change.{Change}
use Rattle.jar_types.specs.declared.entry.Entry.{Entry}
use Rattle.jar_types.specs.declared.entry.Entry.TheVariants.{Call}
use Rattle.jar_types.specs.declared.listener.Listener.{Listener}
use Rattle.jar_types.specs.declared.listener.Scope.{Scope}
use Rattle.jar_types.specs.declared.op.Op.TheVariants.{Listen, Changes}
use Rattle.jar_types.specs.declared.op.Reply.{Reply}
use Rattle.jar_types.specs.declared.op.Reply.TheVariants as reply
use Rattle.jar_types.specs.HistoryLaws.{heard, spares}
use Rattle.jar_types.specs.Journals.{Rules, IsLegal, events, state_of, stored_keys}
use Rattle.jar_types.specs.Listeners.{listener_at}
use Rattle.jar_types.specs.Steps.{after, event_of}

-- in a journal, between an entry and the one in which a caller asks a listener of this number, none takes
-- its changes or ends it, and that one is answered so
pub record AsksNext (journal : List Entry) (caller number : ℕ) (opens : Entry) (answer : Reply) : Type 0 where
  pub before : List Entry
  pub since : List Entry
  pub now : ℕ
  pub later : List Entry
  pub is : journal ≡ before ++ (opens ∷ (since ++ (Call caller now (Changes number) answer ∷ later)))
  pub spared : list_all (spares caller number) (events since) ≡ true

-- the changes that a scope admits, of the entries between
abbrev pub heard_since : Rules → Scope → (journal : List Entry) (caller number : ℕ) (opens : Entry) (answer : Reply)
    → AsksNext journal caller number opens answer → List Change
heard_since r scope journal caller number opens answer asks =
    heard scope (after (state_of (stored_keys r) asks.before) (event_of opens)) (events asks.since)

-- the first answer to a listener has just the changes that its scope admits, of the entries since it was
-- registered
abbrev pub ListenersAreToldFirst : Type 0
ListenersAreToldFirst =
    (r : Rules) (journal : List Entry) (caller number now : ℕ) (scope : Scope) (answer : Reply) → IsLegal r journal
    → let opens = Call caller now (Listen scope) (reply.Listener number) in
    (asks : AsksNext journal caller number opens answer)
    → answer ≡ reply.Changes (heard_since r scope journal caller number opens answer asks)

-- and each later one those of the entries since the answer before it
abbrev pub ListenersAreToldOn : Type 0
ListenersAreToldOn =
    (r : Rules) (journal : List Entry) (caller number now : ℕ) (taken : Reply) (answer : Reply) (l : Listener) → IsLegal r journal
    → let opens = Call caller now (Changes number) taken in
    (asks : AsksNext journal caller number opens answer)
    → listener_at caller number (state_of (stored_keys r) asks.before).listeners ≡ Some l
    → answer ≡ reply.Changes (heard_since r l.scope journal caller number opens answer asks)
