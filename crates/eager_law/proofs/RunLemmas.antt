-- Events one after another, and so the law: loading stored cookies a key at a time changes no
-- answer.
use Rattle.std.proofs.Common.{◌≡◌, List, [], ◌∷◌, true, refl, sym, ap, ◌∙◌}
use Rattle.std.specs.Prelude.{map, fold}
use Rattle.std.specs.List.{AllByRecursion}
use Rattle.jar_types.specs.declared.entry.Event.{Event}
use Rattle.jar_types.specs.declared.entry.Entry.{Entry}
use Rattle.jar_types.specs.declared.entry.Entry.TheVariants.{Call, Jar}
use Rattle.jar_types.specs.declared.row.Row.{Row}
use Rattle.jar_types.specs.Journals.{Rules, all_stand, events, run, stands, state_of}
use Rattle.jar_types.specs.States.{JarState}
use Rattle.jar_types.specs.Steps.{after, changes_at, entry_of, event_of, rows_at}
use Rattle.jar_types.specs.Stored.{EntryIsHonest}
use Rattle.eager_law.specs.Eager.{eager_opening, unlisted, unlisted_entry, loaded_part, change_lists, row_lists}
use Rattle.eager_law.specs.Laws.{LoadingChangesNoAnswer}
use Rattle.eager_law.proofs.MemberLemmas.{weaker, mapped_all}
use Rattle.eager_law.proofs.PartLemmas.{both}
use Rattle.eager_law.proofs.LoadLemmas.{joined}
use Rattle.eager_law.proofs.OwnLemmas.{StateFits}
use Rattle.eager_law.proofs.EventLemmas.{unlisted_event, EventIsHonest, event_agrees}
use Rattle.eager_law.proofs.OpeningLemmas.{opening_part, opening_state}

-- both jars make the same of these events
record AllAgree (r : Rules) (s : JarState) (vs : List Event) : Type 0 where
  standing : all_stand r s (map unlisted_event vs) ≡ true
  entries : run s (map unlisted_event vs) ≡ map unlisted_entry (run (loaded_part s) vs)
  changes : change_lists s (map unlisted_event vs) ≡ change_lists (loaded_part s) vs
  rows : row_lists s (map unlisted_event vs) ≡ row_lists (loaded_part s) vs
  then : fold after (loaded_part s) vs ≡ loaded_part (fold after s (map unlisted_event vs))

all_agree : (r : Rules) (stored : List Row) (s : JarState) (vs : List Event) → StateFits r stored s
    → all_stand r (loaded_part s) vs ≡ true
    → AllByRecursion (EventIsHonest r stored) vs → AllAgree r s vs
all_agree r stored s [] fit stand honest = record { standing = refl; entries = refl; changes = refl; rows = refl; then = refl }
all_agree r stored s (v ∷ vs) fit stand honest =
    let parts = both (stands r (loaded_part s) v) (all_stand r (after (loaded_part s) v) vs) stand in
    let one = event_agrees r stored s fit v parts.0 honest.0 in
    let s' = after s (unlisted_event v) in
    let more = all_agree r stored s' vs one.fits (ap (λ t. all_stand r t vs) one.then ∙ parts.1) honest.1 in
    let there = map unlisted_event vs in
    record {
      standing = joined (stands r s (unlisted_event v)) (all_stand r s' there) one.standing more.standing;
      entries =
          ap (λ e. e ∷ run s' there) one.entry
          ∙ ap (λ es. unlisted_entry (entry_of (loaded_part s) v) ∷ es) (more.entries ∙ ap (λ t. map unlisted_entry (run t vs)) one.then);
      changes =
          ap (λ c. c ∷ change_lists s' there) one.changes
          ∙ ap (λ cs. changes_at (loaded_part s) v ∷ cs) (more.changes ∙ ap (λ t. change_lists t vs) one.then);
      rows =
          ap (λ c. c ∷ row_lists s' there) one.rows
          ∙ ap (λ cs. rows_at (loaded_part s) v ∷ cs) (more.rows ∙ ap (λ t. row_lists t vs) one.then);
      then = ap (λ t. fold after t vs) (sym one.then) ∙ more.then;
    }

-- ---- journals

unlisted_back : (e : Entry) → event_of (unlisted_entry e) ≡ unlisted_event (event_of e)
unlisted_back (Call caller now op reply) = refl
unlisted_back (Jar own) = refl

events_unlisted : (journal : List Entry) → events (unlisted journal) ≡ map unlisted_event (events journal)
events_unlisted [] = refl
events_unlisted (e ∷ es) = ap (λ v. v ∷ events (unlisted es)) (unlisted_back e) ∙ ap (λ vs. unlisted_event (event_of e) ∷ vs) (events_unlisted es)

event_honest : (r : Rules) (rows : List Row) (e : Entry) → EntryIsHonest r rows e → EventIsHonest r rows (event_of e)
event_honest r rows (Call caller now op reply) honest = tt
event_honest r rows (Jar own) honest = honest

events_honest : (r : Rules) (rows : List Row) (journal : List Entry) → AllByRecursion (EntryIsHonest r rows) journal
    → AllByRecursion (EventIsHonest r rows) (events journal)
events_honest r rows journal honest =
    mapped_all (EventIsHonest r rows) event_of journal
    (weaker (EntryIsHonest r rows) (λ e. EventIsHonest r rows (event_of e)) (event_honest r rows) journal honest)

pub loading_changes_no_answer : LoadingChangesNoAnswer
unfolding state_of
loading_changes_no_answer r rows journal rises legal honest =
    let eager = eager_opening r rows in
    let vs = events journal in
    let begins = opening_part r rows honest.hosts in
    let same = events_unlisted journal in
    let all =
    all_agree r rows eager vs (opening_state r rows rises) (ap (λ t. all_stand r t vs) begins ∙ legal.standing)
    (events_honest r rows journal honest.loads) in
    record {
      standing = ap (all_stand r eager) same ∙ all.standing;
      replies = ap (run eager) same ∙ all.entries ∙ ap (λ t. map unlisted_entry (run t vs)) begins ∙ ap (map unlisted_entry) legal.replies;
      cookie_changes = ap (change_lists eager) same ∙ all.changes ∙ ap (λ t. change_lists t vs) begins;
      row_changes = ap (row_lists eager) same ∙ all.rows ∙ ap (λ t. row_lists t vs) begins;
      state = ap (λ t. fold after t vs) (sym begins) ∙ all.then ∙ ap (λ ws. loaded_part (fold after eager ws)) (sym same);
    }
