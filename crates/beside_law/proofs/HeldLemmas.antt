-- What is held beside a journal: one entry more, ids that rise, and all that is held, kept and
-- pending.
use Rattle.std.proofs.Common.{◌≡◌, List, [], ◌∷◌, ◌++◌, refl, sym, ap, ◌∙◌}
use Rattle.std.specs.Prelude.{fold}
use Rattle.jar_types.specs.declared.entry.Event.{Event}
use Rattle.jar_types.specs.declared.entry.Event.TheVariants.{Call as CallEvent, Jar as JarEvent}
use Rattle.jar_types.specs.declared.entry.Own.{Own}
use Rattle.jar_types.specs.declared.entry.Own.TheVariants.{Want, WantAll, Begun, Loaded, Lost, Whole, Taken, Acked, CommitLost}
use Rattle.jar_types.specs.declared.row.Row.{Row}
use Rattle.jar_types.specs.declared.row.RowChange.{RowChange}
use Rattle.jar_types.specs.Journals.{events, state_of, stored_keys}
use Rattle.jar_types.specs.RowChanges.{RowsRise, changed_rows, newest_over, rows_after}
use Rattle.jar_types.specs.States.{JarState, opening}
use Rattle.jar_types.specs.Steps.{after, own_rows, rows_at}
use Rattle.jar_types.proofs.JournalLemmas.{events-push}
use Rattle.stored_law.specs.Keeping.{changes_from}
use Rattle.stored_law.proofs.ChangeLemmas.{changed_rows_rise, newest_tell_all}
use Rattle.beside_law.specs.Beside.{Beside, beside_from, beside_of, event_beside, nothing_beside}
use Rattle.beside_law.specs.Held.{AllIsHeld, HeldBegins, HeldGoesOn, HeldRises, event_held, held_from, held_of, own_held}
use Rattle.beside_law.proofs.BesideLemmas.{BothRise, event_rise, none_rise, nothing_rises}

-- ---- one entry more

held_push : (s : JarState) (vs : List Event) (v : Event) (b : Beside) (held : List Row)
    → held_from s (vs ++ v ∷ []) b held ≡ event_held v (beside_from s vs b).kept (held_from s vs b held)
held_push s [] v b held = refl
held_push s (w ∷ ws) v b held = held_push (after s w) ws v (event_beside s w b) (event_held w b.kept held)

pub held_begins : HeldBegins
unfolding held_of
held_begins r rows = refl

pub held_goes_on : HeldGoesOn
unfolding beside_of held_of state_of
held_goes_on r rows journal v =
    let start = opening (stored_keys r) in
    rw (events-push journal (fold after start (events journal)) v) (held_push start (events journal) v nothing_beside rows)

-- ---- ids that rise

own_held_rises : (own : Own) (kept : List RowChange) (held : List Row) → RowsRise held → RowsRise (own_held own kept held)
own_held_rises (Want key) kept held rises = rises
own_held_rises WantAll kept held rises = rises
own_held_rises (Begun key) kept held rises = rises
own_held_rises (Loaded key cookies) kept held rises = rises
own_held_rises (Lost key) kept held rises = rises
own_held_rises (Whole now) kept held rises = rises
own_held_rises Taken kept held rises = rises
own_held_rises (Acked place) kept held rises = changed_rows_rise held kept rises
own_held_rises (CommitLost place) kept held rises = rises

event_held_rises : (v : Event) (kept : List RowChange) (held : List Row) → RowsRise held → RowsRise (event_held v kept held)
event_held_rises (CallEvent caller now op) kept held rises = rises
event_held_rises (JarEvent own) kept held rises = own_held_rises own kept held rises

from_held_rises : (s : JarState) (vs : List Event) (b : Beside) (held : List Row) → RowsRise held → RowsRise (held_from s vs b held)
from_held_rises s [] b held rises = rises
from_held_rises s (v ∷ vs) b held rises =
    from_held_rises (after s v) vs (event_beside s v b) (event_held v b.kept held) (event_held_rises v b.kept held rises)

pub held_rises : HeldRises
unfolding held_of
held_rises r rows journal rises = from_held_rises (opening (stored_keys r)) (events journal) nothing_beside rows rises

-- ---- all that is held, kept and pending

-- what is kept and what is pending make all of what is held
abbrev pub IsAll : List Row → List Row → Beside → Type 0
IsAll all held b = changed_rows held (newest_over b.kept b.pending) ≡ all

parted : (held : List Row) (b : Beside) → RowsRise held → BothRise b
    → changed_rows held (newest_over b.kept b.pending) ≡ changed_rows (changed_rows held b.kept) b.pending
parted held b rises rise = newest_tell_all held b.kept b.pending rises rise.kept

more_all : (all held : List Row) (b : Beside) (rows : List RowChange) → RowsRise held → BothRise b → IsAll all held b
    → IsAll (changed_rows all rows) held (record b { pending = newest_over b.pending rows })
more_all all held b rows rises rise is =
    newest_tell_all held b.kept (newest_over b.pending rows) rises rise.kept
    ∙ newest_tell_all (changed_rows held b.kept) b.pending rows (changed_rows_rise held b.kept rises) rise.pending
    ∙ ap (λ rs. changed_rows rs rows) (sym (parted held b rises rise) ∙ is)

own_all : (all held : List Row) (s : JarState) (own : Own) (b : Beside) → RowsRise held → BothRise b → IsAll all held b
    → IsAll (changed_rows all (rows_at s (JarEvent own))) (event_held (JarEvent own) b.kept held) (event_beside s (JarEvent own) b)
own_all all held s (Want key) b rises rise is = is
own_all all held s WantAll b rises rise is = is
own_all all held s (Begun key) b rises rise is = is
own_all all held s (Loaded key cookies) b rises rise is = is
own_all all held s (Lost key) b rises rise is = is
own_all all held s (Whole now) b rises rise is = more_all all held b (own_rows (Whole now) s.cookies) rises rise is
own_all all held s Taken b rises rise is = is
own_all all held s (Acked place) b rises rise is =
    newest_tell_all (changed_rows held b.kept) [] b.pending (changed_rows_rise held b.kept rises) none_rise
    ∙ sym (parted held b rises rise)
    ∙ is
own_all all held s (CommitLost place) b rises rise is = is

event_all : (all held : List Row) (s : JarState) (v : Event) (b : Beside) → RowsRise held → BothRise b → IsAll all held b
    → IsAll (changed_rows all (rows_at s v)) (event_held v b.kept held) (event_beside s v b)
event_all all held s (CallEvent caller now op) b rises rise is = more_all all held b (rows_at s (CallEvent caller now op)) rises rise is
event_all all held s (JarEvent own) b rises rise is = own_all all held s own b rises rise is

changed_joined : (rows : List Row) (cs ds : List RowChange) → changed_rows (changed_rows rows cs) ds ≡ changed_rows rows (cs ++ ds)
changed_joined rows [] ds = refl
changed_joined rows (c ∷ cs) ds = changed_joined (rows_after rows c) cs ds

from_all : (all held : List Row) (s : JarState) (vs : List Event) (b : Beside) → RowsRise held → BothRise b → IsAll all held b
    → IsAll (changed_rows all (changes_from s vs)) (held_from s vs b held) (beside_from s vs b)
from_all all held s [] b rises rise is = is
from_all all held s (v ∷ vs) b rises rise is =
    from_all (changed_rows all (rows_at s v)) (event_held v b.kept held) (after s v) vs (event_beside s v b)
    (event_held_rises v b.kept held rises) (event_rise s v b rise) (event_all all held s v b rises rise is)
    ∙ changed_joined all (rows_at s v) (changes_from (after s v) vs)

pub all_is_held : AllIsHeld
unfolding beside_of held_of
all_is_held r rows journal rises =
    from_all rows rows (opening (stored_keys r)) (events journal) nothing_beside rises nothing_rises refl
