-- What is held beside a legal journal is what all changes made of the rows up to the taking of the
-- last batch that was committed.
use Rattle.std.proofs.Common.{◌≡◌, ◌≤◌, ◌+◌, ℕ, List, [], ◌∷◌, ◌++◌, length, take, true, Option, None, Some, refl, sym, ap, ◌∙◌, arith}
use Rattle.std.specs.Prelude.{map}
use Rattle.std.specs.List.Sorted.{IsStrictlySortedBy}
use Rattle.std.proofs.lemmas.Bool.{and_parts}
use Rattle.std.proofs.lemmas.Bool.Decides.{nat_tests}
use Rattle.std.proofs.lemmas.List.{append-nil, take-append-le}
use Rattle.std.proofs.Math.Seq.{take-length}
use Rattle.jar_types.specs.declared.entry.Entry.{Entry}
use Rattle.jar_types.specs.declared.entry.Event.{Event}
use Rattle.jar_types.specs.declared.entry.Event.TheVariants.{Call as CallEvent, Jar as JarEvent}
use Rattle.jar_types.specs.declared.entry.Own.{Own}
use Rattle.jar_types.specs.declared.entry.Own.TheVariants.{Want, WantAll, Begun, Loaded, Lost, Whole, Taken, Acked, CommitLost}
use Rattle.jar_types.specs.declared.row.Row.{Row}
use Rattle.jar_types.specs.declared.row.RowChange.{RowChange}
use Rattle.jar_types.specs.Batches.{Batches, is_out, may_commit}
use Rattle.jar_types.specs.Journals.{IsLegal, Rules, own_fits, stands, state_of, stored_keys}
use Rattle.jar_types.specs.Loads.{may_load}
use Rattle.jar_types.specs.RowChanges.{RowsRise, change_id, changed_rows, newest_over}
use Rattle.jar_types.specs.States.{JarState}
use Rattle.jar_types.specs.Steps.{after, entry_of, own_may_stand, rows_at}
use Rattle.jar_types.specs.Stored.{IsHonest, sound_rows, stored_rows}
use Rattle.jar_types.proofs.JournalLemmas.{state_push}
use Rattle.stored_law.specs.Keeping.{AllStorable, row_changes_of}
use Rattle.stored_law.proofs.StoredLemmas.{changes_are_stored, row_changes_go_on}
use Rattle.beside_law.specs.Beside.{Beside, beside_of, event_beside, nothing_beside}
use Rattle.beside_law.specs.Held.{AckedIsThere, AllAckedIsStored, BatchIsStored, HeldIsAcked, HeldIsStored, SettledIsStored, event_held, held_of}
use Rattle.beside_law.proofs.BesideLemmas.{beside_goes_on, kept_where_out, pending_is_touched}
use Rattle.beside_law.proofs.HeldLemmas.{all_is_held, held_goes_on}
use Rattle.beside_law.proofs.LegalLemmas.{each_legal, honest_take, legal_take, one_longer, storable_take}
use Rattle.beside_law.proofs.SameLemmas.{call_same, event_entries}

-- ---- the places of a journal

-- what all changes of a journal make of the rows up to a place
abbrev rows_up_to : Rules → List Row → ℕ → List Entry → List Row
rows_up_to r rows place journal = changed_rows rows (row_changes_of r (take place journal))

-- an entry more leaves what was up to a place
up_to_on : (r : Rules) (rows : List Row) (place : ℕ) (journal : List Entry) (e : Entry) → place ≤ length journal
    → rows_up_to r rows place (journal ++ e ∷ []) ≡ rows_up_to r rows place journal
up_to_on r rows place journal e there =
    ap (λ es. changed_rows rows (row_changes_of r es)) (take-append-le place journal (e ∷ []) there)

-- ---- what was committed, and what is out

-- the journal has an entry for each that the state counts; what is held is all up to the last batch
-- that was committed; and with what is kept, all up to the one that is out
record IsUpTo (r : Rules) (rows : List Row) (journal : List Entry) (s : JarState) (b : Beside) (held : List Row) : Type 0 where
  count : length journal ≡ s.entries
  there : b.acked ≤ length journal
  acked : held ≡ rows_up_to r rows b.acked journal
  taken : (place : ℕ) → s.batches.out ≡ Some place → place ≤ length journal
  out : (place : ℕ) → s.batches.out ≡ Some place → changed_rows held b.kept ≡ rows_up_to r rows place journal

begin_up_to : (r : Rules) (rows : List Row) (keys : List (List ℕ)) → IsUpTo r rows [] (state_of keys []) nothing_beside rows
unfolding state_of
begin_up_to r rows keys = record {
  count = refl;
  there = omega arith;
  acked = refl;
  taken = λ place e. absurd cc;
  out = λ place e. absurd cc;
}

-- an event that takes no batch and ends none, or loses one
same_up_to : (r : Rules) (rows : List Row) (journal : List Entry) (e : Entry) (s t : JarState) (b c : Beside) (held : List Row) → IsUpTo r rows journal s b held
    → t.entries ≡ s.entries + 1 → c.acked ≡ b.acked → c.kept ≡ b.kept → ((place : ℕ) → t.batches.out ≡ Some place → s.batches.out ≡ Some place)
    → IsUpTo r rows (journal ++ e ∷ []) t c held
same_up_to r rows journal e s t b c held up entries acked kept out =
    let longer = one_longer journal e in
    let count = up.count in
    let there = up.there in
    record {
      count = longer ∙ ap (λ n. n + 1) count ∙ sym entries;
      there = omega (arith, longer, there, acked);
      acked = up.acked ∙ sym (up_to_on r rows b.acked journal e there) ∙ ap (λ n. rows_up_to r rows n (journal ++ e ∷ [])) (sym acked);
      taken = λ place is. let before = up.taken place (out place is) in omega (arith, longer, before);
      out =
          λ place is.
          let was = out place is in
          ap (changed_rows held) kept ∙ up.out place was ∙ sym (up_to_on r rows place journal e (up.taken place was));
    }

-- a batch is taken: with what is kept then, it is all of the journal
taken_up_to : (r : Rules) (rows : List Row) (journal : List Entry) (s : JarState) (b : Beside) (held : List Row) → IsUpTo r rows journal s b held
    → changed_rows held (newest_over b.kept b.pending) ≡ changed_rows rows (row_changes_of r (journal ++ entry_of s (JarEvent Taken) ∷ []))
    → IsUpTo r rows (journal ++ entry_of s (JarEvent Taken) ∷ []) (after s (JarEvent Taken)) (event_beside s (JarEvent Taken) b) held
taken_up_to r rows journal s b held up all =
    let e = entry_of s (JarEvent Taken) in
    let longer = one_longer journal e in
    let count = up.count in
    let there = up.there in
    let place_is : length (journal ++ e ∷ []) ≡ s.entries + 1 = longer ∙ ap (λ n. n + 1) count in
    record {
      count = place_is;
      there = omega (arith, longer, there);
      acked = up.acked ∙ sym (up_to_on r rows b.acked journal e there);
      taken = λ place is. let same : s.entries + 1 ≡ place = cc in omega (arith, place_is, same);
      out =
          λ place is.
          let same : s.entries + 1 ≡ place = cc in
          all
          ∙ ap (λ es. changed_rows rows (row_changes_of r es)) (sym (take-length (journal ++ e ∷ [])))
          ∙ ap (λ n. rows_up_to r rows n (journal ++ e ∷ [])) (place_is ∙ same);
    }

out_is : (place : ℕ) (out : Option ℕ) → is_out place out ≡ true → out ≡ Some place
out_is place None e = absurd cc
out_is place (Some taken) e = let same : taken ≡ place = grind (arith, nat_tests) in ap (λ n. Some n) same

-- the batch that is out is committed
acked_up_to : (r : Rules) (rows : List Row) (journal : List Entry) (s : JarState) (b : Beside) (held : List Row) (place : ℕ) → IsUpTo r rows journal s b held
    → s.batches.out ≡ Some place
    → IsUpTo r rows (journal ++ entry_of s (JarEvent (Acked place)) ∷ []) (after s (JarEvent (Acked place))) (event_beside s (JarEvent (Acked place)) b) (changed_rows held b.kept)
acked_up_to r rows journal s b held place up is =
    let e = entry_of s (JarEvent (Acked place)) in
    let longer = one_longer journal e in
    let taken = up.taken place is in
    record {
      count = longer ∙ ap (λ n. n + 1) up.count;
      there = omega (arith, longer, taken);
      acked = up.out place is ∙ sym (up_to_on r rows place journal e taken);
      taken = λ other none. absurd cc;
      out = λ other none. absurd cc;
    }

own_up_to : (r : Rules) (rows : List Row) (journal : List Entry) (s : JarState) (b : Beside) (held : List Row) (own : Own) → IsUpTo r rows journal s b held
    → may_commit own s.batches ≡ true
    → changed_rows held (newest_over b.kept b.pending) ≡ changed_rows rows (row_changes_of r journal)
    → row_changes_of r (journal ++ entry_of s (JarEvent own) ∷ []) ≡ row_changes_of r journal ++ rows_at s (JarEvent own)
    → IsUpTo r rows (journal ++ entry_of s (JarEvent own) ∷ []) (after s (JarEvent own)) (event_beside s (JarEvent own) b) (event_held (JarEvent own) b.kept held)
own_up_to r rows journal s b held (Want key) up may all goes =
    let v = JarEvent (Want key) in same_up_to r rows journal (entry_of s v) s (after s v) b (event_beside s v b) held up refl refl refl (λ place e. e)
own_up_to r rows journal s b held WantAll up may all goes =
    let v = JarEvent WantAll in same_up_to r rows journal (entry_of s v) s (after s v) b (event_beside s v b) held up refl refl refl (λ place e. e)
own_up_to r rows journal s b held (Begun key) up may all goes =
    let v = JarEvent (Begun key) in same_up_to r rows journal (entry_of s v) s (after s v) b (event_beside s v b) held up refl refl refl (λ place e. e)
own_up_to r rows journal s b held (Loaded key cookies) up may all goes =
    let v = JarEvent (Loaded key cookies) in same_up_to r rows journal (entry_of s v) s (after s v) b (event_beside s v b) held up refl refl refl (λ place e. e)
own_up_to r rows journal s b held (Lost key) up may all goes =
    let v = JarEvent (Lost key) in same_up_to r rows journal (entry_of s v) s (after s v) b (event_beside s v b) held up refl refl refl (λ place e. e)
own_up_to r rows journal s b held (Whole now) up may all goes =
    let v = JarEvent (Whole now) in same_up_to r rows journal (entry_of s v) s (after s v) b (event_beside s v b) held up refl refl refl (λ place e. e)
own_up_to r rows journal s b held Taken up may all goes =
    taken_up_to r rows journal s b held up (all ∙ ap (changed_rows rows) (sym (append-nil (row_changes_of r journal)) ∙ sym goes))
own_up_to r rows journal s b held (Acked place) up may all goes = acked_up_to r rows journal s b held place up (out_is place s.batches.out may)
own_up_to r rows journal s b held (CommitLost place) up may all goes =
    let v = JarEvent (CommitLost place) in same_up_to r rows journal (entry_of s v) s (after s v) b (event_beside s v b) held up refl refl refl (λ place e. absurd cc)

call_up_to : (r : Rules) (rows : List Row) (journal : List Entry) (s : JarState) (b : Beside) (held : List Row) (v : Event) → IsUpTo r rows journal s b held
    → stands r s v ≡ true
    → changed_rows held (newest_over b.kept b.pending) ≡ changed_rows rows (row_changes_of r journal)
    → row_changes_of r (journal ++ entry_of s v ∷ []) ≡ row_changes_of r journal ++ rows_at s v
    → IsUpTo r rows (journal ++ entry_of s v ∷ []) (after s v) (event_beside s v b) (event_held v b.kept held)
call_up_to r rows journal s b held (CallEvent caller now op) up stand all goes =
    let v = CallEvent caller now op in
    same_up_to r rows journal (entry_of s v) s (after s v) b (event_beside s v b) held up (event_entries s v) refl refl
    (λ place e. ap (λ (c : Batches). c.out) (sym (call_same s caller now op).batches) ∙ e)
call_up_to r rows journal s b held (JarEvent own) up stand all goes =
    let may = and_parts (own_may_stand s own) (own_fits r own) stand in
    let commits = and_parts (may_load own s.loads) (may_commit own s.batches) may.0 in
    own_up_to r rows journal s b held own up commits.1 all goes

-- ---- all of a legal journal

abbrev IsAcked : Rules → List Row → List Entry → Type 0
IsAcked r rows journal = IsUpTo r rows journal (state_of (stored_keys r) journal) (beside_of r journal) (held_of r rows journal)

acked_begins : (r : Rules) (rows : List Row) → IsAcked r rows []
unfolding beside_of held_of
acked_begins r rows = begin_up_to r rows (stored_keys r)

acked_goes_on : (r : Rules) (rows : List Row) → RowsRise rows → (journal : List Entry) (v : Event) → IsLegal r journal
    → stands r (state_of (stored_keys r) journal) v ≡ true → IsAcked r rows journal
    → IsAcked r rows (journal ++ entry_of (state_of (stored_keys r) journal) v ∷ [])
acked_goes_on r rows rises journal v legal stand up =
    let s = state_of (stored_keys r) journal in
    let on = call_up_to r rows journal s (beside_of r journal) (held_of r rows journal) v up stand (all_is_held r rows journal rises) (row_changes_go_on r journal v) in
    rw (state_push (stored_keys r) journal v, beside_goes_on r journal v, held_goes_on r rows journal v) on

all_acked : (r : Rules) (rows : List Row) (journal : List Entry) → RowsRise rows → IsLegal r journal → IsAcked r rows journal
all_acked r rows journal rises legal = each_legal r (IsAcked r rows) (acked_begins r rows) (acked_goes_on r rows rises) journal legal

-- ---- the laws

no_rows_rise : RowsRise []
unfolding IsStrictlySortedBy
no_rows_rise = tt

pub acked_is_there : AckedIsThere
acked_is_there r journal legal = (all_acked r [] journal no_rows_rise legal).there

pub held_is_acked : HeldIsAcked
held_is_acked r rows journal rises legal = (all_acked r rows journal rises legal).acked

-- what all changes made up to a place is what was to be stored then
stored_up_to : (r : Rules) (rows : List Row) (place : ℕ) (journal : List Entry) → RowsRise rows → IsLegal r journal → IsHonest r rows journal → AllStorable journal
    → sound_rows (rows_up_to r rows place journal) ≡ stored_rows r rows (take place journal)
stored_up_to r rows place journal rises legal honest can =
    changes_are_stored r rows (take place journal) rises (legal_take r place journal legal) (honest_take r rows place journal honest) (storable_take place journal can)

pub held_is_stored : HeldIsStored
held_is_stored r rows journal rises legal honest can =
    ap sound_rows (held_is_acked r rows journal rises legal) ∙ stored_up_to r rows (beside_of r journal).acked journal rises legal honest can

pub batch_is_stored : BatchIsStored
batch_is_stored r rows journal place rises legal honest can is =
    ap sound_rows ((all_acked r rows journal rises legal).out place is) ∙ stored_up_to r rows place journal rises legal honest can

pub all_acked_is_stored : AllAckedIsStored
all_acked_is_stored r rows journal rises legal honest can kept pending =
    let held = held_of r rows journal in
    let all : held ≡ changed_rows rows (row_changes_of r journal) =
    sym (ap (λ cs. changed_rows held (newest_over cs (beside_of r journal).pending)) kept ∙ ap (λ cs. changed_rows held (newest_over [] cs)) pending)
    ∙ all_is_held r rows journal rises in
    ap sound_rows all ∙ changes_are_stored r rows journal rises legal honest can

none_changed : (changes : List RowChange) → map change_id changes ≡ [] → changes ≡ []
none_changed [] e = refl
none_changed (c ∷ cs) e = absurd cc

pub settled_is_stored : SettledIsStored
settled_is_stored r rows journal rises legal honest can settled =
    let kept = kept_where_out r journal (ap (λ (b : Batches). b.out) settled) (ap (λ (b : Batches). b.lost) settled) in
    let touched = pending_is_touched r journal ∙ ap (λ (b : Batches). b.touched) settled in
    all_acked_is_stored r rows journal rises legal honest can kept (none_changed (beside_of r journal).pending touched)
