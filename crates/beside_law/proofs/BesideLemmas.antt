-- What waits beside a journal: one entry more, ids that rise, those that were touched, and what is
-- kept.
use Rattle.std.proofs.Common.{◌≡◌, ℕ, List, [], ◌∷◌, ◌++◌, false, None, refl, sym, ap, ◌∙◌}
use Rattle.std.specs.Prelude.{fold, map}
use Rattle.std.specs.List.Sorted.{IsStrictlySortedBy}
use Rattle.jar_types.specs.declared.entry.Event.{Event}
use Rattle.jar_types.specs.declared.entry.Event.TheVariants.{Call as CallEvent, Jar as JarEvent}
use Rattle.jar_types.specs.declared.entry.Own.{Own}
use Rattle.jar_types.specs.declared.entry.Own.TheVariants.{Want, WantAll, Begun, Loaded, Lost, Whole, Taken, Acked, CommitLost}
use Rattle.jar_types.specs.declared.op.Op.{Op}
use Rattle.jar_types.specs.declared.row.RowChange.{RowChange}
use Rattle.jar_types.specs.Batches.{Batches}
use Rattle.jar_types.specs.Journals.{events, state_of, stored_keys}
use Rattle.jar_types.specs.RowChanges.{change_id, newest_over}
use Rattle.jar_types.specs.States.{JarState, opening}
use Rattle.jar_types.specs.Steps.{after, call_step, own_rows, rows_at}
use Rattle.jar_types.proofs.JournalLemmas.{events-push}
use Rattle.stored_law.specs.Coalescing.{ChangesRise}
use Rattle.stored_law.proofs.ChangeLemmas.{newest_are_touched, newest_rise}
use Rattle.beside_law.specs.Beside.{Beside, BesideBegins, BesideGoesOn, KeptRises, KeptWhereOut, PendingIsTouched, PendingRises, beside_from, beside_of, event_beside, nothing_beside, own_beside}
use Rattle.beside_law.proofs.SameLemmas.{call_same}

-- ---- one entry more

beside_push : (s : JarState) (vs : List Event) (v : Event) (b : Beside) → beside_from s (vs ++ v ∷ []) b ≡ event_beside (fold after s vs) v (beside_from s vs b)
beside_push s [] v b = refl
beside_push s (w ∷ ws) v b = beside_push (after s w) ws v (event_beside s w b)

pub beside_begins : BesideBegins
unfolding beside_of
beside_begins r = refl

pub beside_goes_on : BesideGoesOn
unfolding beside_of state_of
beside_goes_on r journal v =
    let start = opening (stored_keys r) in
    rw (events-push journal (fold after start (events journal)) v) (beside_push start (events journal) v nothing_beside)

-- ---- ids that rise

pub none_rise : ChangesRise []
unfolding IsStrictlySortedBy
none_rise = tt

-- the ids of what is pending rise, and so do those of what is kept
pub record BothRise (b : Beside) : Type 0 where
  pub pending : ChangesRise b.pending
  pub kept : ChangesRise b.kept

more_rise : (rows : List RowChange) (b : Beside) → BothRise b → BothRise (record b { pending = newest_over b.pending rows })
more_rise rows b rise = record { pending = newest_rise b.pending rows rise.pending; kept = rise.kept }

own_rise : (own : Own) (rows : List RowChange) (b : Beside) → BothRise b → BothRise (own_beside own rows b)
own_rise (Want key) rows b rise = more_rise rows b rise
own_rise WantAll rows b rise = more_rise rows b rise
own_rise (Begun key) rows b rise = more_rise rows b rise
own_rise (Loaded key cookies) rows b rise = more_rise rows b rise
own_rise (Lost key) rows b rise = more_rise rows b rise
own_rise (Whole now) rows b rise = more_rise rows b rise
own_rise Taken rows b rise = record { pending = none_rise; kept = newest_rise b.kept b.pending rise.kept }
own_rise (Acked place) rows b rise = record { pending = rise.pending; kept = none_rise }
own_rise (CommitLost place) rows b rise = more_rise rows b rise

pub event_rise : (s : JarState) (v : Event) (b : Beside) → BothRise b → BothRise (event_beside s v b)
event_rise s (CallEvent caller now op) b rise = more_rise (rows_at s (CallEvent caller now op)) b rise
event_rise s (JarEvent own) b rise = own_rise own (rows_at s (JarEvent own)) b rise

from_rise : (s : JarState) (vs : List Event) (b : Beside) → BothRise b → BothRise (beside_from s vs b)
from_rise s [] b rise = rise
from_rise s (v ∷ vs) b rise = from_rise (after s v) vs (event_beside s v b) (event_rise s v b rise)

pub nothing_rises : BothRise nothing_beside
nothing_rises = record { pending = none_rise; kept = none_rise }

pub pending_rises : PendingRises
unfolding beside_of
pending_rises r journal = (from_rise (opening (stored_keys r)) (events journal) nothing_beside nothing_rises).pending

pub kept_rises : KeptRises
unfolding beside_of
kept_rises r journal = (from_rise (opening (stored_keys r)) (events journal) nothing_beside nothing_rises).kept

-- ---- what was touched, and what is kept

-- what is pending is of the touched ids, and nothing is kept where no batch is out and none was lost
record Fits (s : JarState) (b : Beside) : Type 0 where
  touched : map change_id b.pending ≡ s.batches.touched
  kept : s.batches.out ≡ None → s.batches.lost ≡ false → b.kept ≡ []

call_fits : (s : JarState) (caller now : ℕ) (op : Op) (b : Beside) → Fits s b
    → Fits (after s (CallEvent caller now op)) (event_beside s (CallEvent caller now op) b)
call_fits s caller now op b fits =
    let same = (call_same s caller now op).batches in
    record {
      touched =
          newest_are_touched b.pending (rows_at s (CallEvent caller now op)) (call_step s caller now op).state.batches
          (fits.touched ∙ ap (λ (c : Batches). c.touched) (sym same));
      kept = λ out lost. fits.kept (ap (λ (c : Batches). c.out) (sym same) ∙ out) (ap (λ (c : Batches). c.lost) (sym same) ∙ lost);
    }

own_fits : (s : JarState) (own : Own) (b : Beside) → Fits s b → Fits (after s (JarEvent own)) (event_beside s (JarEvent own) b)
own_fits s (Want key) b fits = record { touched = fits.touched; kept = fits.kept }
own_fits s WantAll b fits = record { touched = fits.touched; kept = fits.kept }
own_fits s (Begun key) b fits = record { touched = fits.touched; kept = fits.kept }
own_fits s (Loaded key cookies) b fits = record { touched = fits.touched; kept = fits.kept }
own_fits s (Lost key) b fits = record { touched = fits.touched; kept = fits.kept }
own_fits s (Whole now) b fits =
    record { touched = newest_are_touched b.pending (own_rows (Whole now) s.cookies) s.batches fits.touched; kept = fits.kept }
own_fits s Taken b fits = record { touched = refl; kept = λ out lost. absurd cc }
own_fits s (Acked place) b fits = record { touched = fits.touched; kept = λ out lost. refl }
own_fits s (CommitLost place) b fits = record { touched = fits.touched; kept = λ out lost. absurd cc }

event_fits : (s : JarState) (v : Event) (b : Beside) → Fits s b → Fits (after s v) (event_beside s v b)
event_fits s (CallEvent caller now op) b fits = call_fits s caller now op b fits
event_fits s (JarEvent own) b fits = own_fits s own b fits

from_fits : (s : JarState) (vs : List Event) (b : Beside) → Fits s b → Fits (fold after s vs) (beside_from s vs b)
from_fits s [] b fits = fits
from_fits s (v ∷ vs) b fits = from_fits (after s v) vs (event_beside s v b) (event_fits s v b fits)

begin_fits : (keys : List (List ℕ)) → Fits (opening keys) nothing_beside
begin_fits keys = record { touched = refl; kept = λ out lost. refl }

pub pending_is_touched : PendingIsTouched
unfolding beside_of state_of
pending_is_touched r journal =
    (from_fits (opening (stored_keys r)) (events journal) nothing_beside (begin_fits (stored_keys r))).touched

pub kept_where_out : KeptWhereOut
unfolding beside_of state_of
kept_where_out r journal out lost =
    (from_fits (opening (stored_keys r)) (events journal) nothing_beside (begin_fits (stored_keys r))).kept out lost
