-- A legal journal with one more entry.
use Rattle.std.proofs.Common.{◌≡◌, List, [], ◌∷◌, ◌++◌, Bool, true, false, refl, ap, ◌∙◌}
use Rattle.std.specs.Prelude.{◌&&◌}
use Rattle.std.specs.List.{fold}
use Rattle.jar_types.specs.declared.entry.Event.{Event}
use Rattle.jar_types.specs.declared.entry.Event.TheVariants.{Call as CallEvent, Jar as JarEvent}
use Rattle.jar_types.specs.declared.entry.Entry.{Entry}
use Rattle.jar_types.specs.States.{JarState, opening}
use Rattle.jar_types.specs.Steps.{after, entry_of, event_of}
use Rattle.jar_types.specs.Journals.{Rules, stored_keys, events, run, all_stand, stands, state_of}
use Rattle.jar_types.specs.JournalLaws.{JournalsGoOn, StatesGoOn}

-- an entry tells its event
pub event_back : (s : JarState) (v : Event) → event_of (entry_of s v) ≡ v
event_back s (CallEvent caller now op) = refl
event_back s (JarEvent own) = refl

pub events-push : (journal : List Entry) (s : JarState) (v : Event) → events (journal ++ entry_of s v ∷ []) ≡ events journal ++ v ∷ []
events-push [] s v = ap (λ x. x ∷ []) (event_back s v)
events-push (e ∷ es) s v = ap (λ xs. event_of e ∷ xs) (events-push es s v)

pub run-push : (s : JarState) (vs : List Event) (v : Event) → run s (vs ++ v ∷ []) ≡ run s vs ++ entry_of (fold after s vs) v ∷ []
run-push s [] v = refl
run-push s (w ∷ ws) v = ap (λ xs. entry_of s w ∷ xs) (run-push (after s w) ws v)

pub fold-push : (s : JarState) (vs : List Event) (v : Event) → fold after s (vs ++ v ∷ []) ≡ after (fold after s vs) v
fold-push s [] v = refl
fold-push s (w ∷ ws) v = fold-push (after s w) ws v

both : (a b : Bool) → (a && b) ≡ true → (a ≡ true) × (b ≡ true)
both true b h = (refl, h)
both false b h = absurd cc

pub all_stand-push : (r : Rules) (s : JarState) (vs : List Event) (v : Event) → all_stand r s vs ≡ true → stands r (fold after s vs) v ≡ true → all_stand r s (vs ++ v ∷ []) ≡ true
all_stand-push r s [] v all last = rw last refl
all_stand-push r s (w ∷ ws) v all last =
    let parts = both (stands r s w) (all_stand r (after s w) ws) all in
    rw parts.0 (all_stand-push r (after s w) ws v parts.1 last)

pub state_push : StatesGoOn
unfolding state_of
state_push keys journal v =
    rw (events-push journal (fold after (opening keys) (events journal)) v) (fold-push (opening keys) (events journal) v)

pub legal_push : JournalsGoOn
unfolding state_of
legal_push r journal v legal may =
    let from = opening (stored_keys r) in
    let s = fold after from (events journal) in
    let vs = events-push journal s v in record {
      hosts = legal.hosts;
      replies = rw vs (run-push from (events journal) v ∙ ap (λ xs. xs ++ entry_of s v ∷ []) legal.replies);
      standing = rw vs (all_stand-push r from (events journal) v legal.standing may);
    }
