-- What the jar does itself: in the part it does what the same without a list does in all.
use Rattle.std.proofs.Common.{◌≡◌, ◌+◌, ℕ, List, [], Bool, true, false, refl, sym, ap, ◌∙◌}
use Rattle.std.specs.Prelude.{not, ◌&&◌, bytes_eq}
use Rattle.std.specs.List.{list_any}
use Rattle.jar_types.specs.declared.cookie.Cookie.{Cookie}
use Rattle.jar_types.specs.declared.entry.Own.{Own}
use Rattle.jar_types.specs.declared.entry.Own.TheVariants.{Want, WantAll, Begun, Loaded, Lost, Whole, Taken, Acked, CommitLost}
use Rattle.jar_types.specs.declared.row.Row.{Row}
use Rattle.jar_types.specs.Batches.{own_batches, may_commit}
use Rattle.jar_types.specs.Evictions.{swept}
use Rattle.jar_types.specs.Journals.{Rules, own_fits}
use Rattle.jar_types.specs.Loads.{Loads, all_loaded, has_text, without_text, is_loaded, lost_where, own_loads, may_load, with_lost}
use Rattle.jar_types.specs.RowChanges.{row_changes}
use Rattle.jar_types.specs.States.{JarState, OwnStepped}
use Rattle.jar_types.specs.Steps.{own_may_stand, own_moment, own_rows, own_step, loaded_among}
use Rattle.jar_types.specs.Stored.{OwnIsHonest}
use Rattle.jar_types.proofs.RisingLemmas.{swept_rises}
use Rattle.eager_law.specs.Eager.{unlisted_own, loaded_part}
use Rattle.eager_law.proofs.PartLemmas.{part, both}
use Rattle.eager_law.proofs.EvictLemmas.{part_whole, change_part}
use Rattle.eager_law.proofs.SetLemmas.{swept_keyed}
use Rattle.eager_law.proofs.LoadLemmas.{LoadsFit, has_from, none_left, own_fit, without_has}
use Rattle.eager_law.proofs.LoadedLemmas.{CookiesFit, load_part}

-- the state of a jar in which all is loaded from the start
pub record StateFits (r : Rules) (rows : List Row) (s : JarState) : Type 0 where
  pub loads : LoadsFit s.loads
  pub cookies : CookiesFit r rows s.loads.keys s.cookies

-- what of it the jar has that loads
abbrev pub own_part : OwnStepped → OwnStepped
own_part step = record { state = loaded_part step.state; changes = step.changes }

-- ---- the same without a list

pub same_may : (own : Own) (l : Loads) → may_load (unlisted_own own) l ≡ may_load own l
same_may (Want key) l = refl
same_may WantAll l = refl
same_may (Begun key) l = refl
same_may (Loaded key cookies) l = refl
same_may (Lost key) l = refl
same_may (Whole now) l = refl
same_may Taken l = refl
same_may (Acked place) l = refl
same_may (CommitLost place) l = refl

pub same_moment : (own : Own) → own_moment (unlisted_own own) ≡ own_moment own
same_moment (Want key) = refl
same_moment WantAll = refl
same_moment (Begun key) = refl
same_moment (Loaded key cookies) = refl
same_moment (Lost key) = refl
same_moment (Whole now) = refl
same_moment Taken = refl
same_moment (Acked place) = refl
same_moment (CommitLost place) = refl

with_true : (b c : Bool) → b && c ≡ true → b && true ≡ true
with_true true c e = refl
with_true false c e = absurd cc

-- it may come there too
pub own_stands : (r : Rules) (s : JarState) (own : Own) → (own_may_stand s own && own_fits r own) ≡ true
    → (own_may_stand s (unlisted_own own) && own_fits r (unlisted_own own)) ≡ true
own_stands r s (Want key) may = may
own_stands r s WantAll may = may
own_stands r s (Begun key) may = may
own_stands r s (Loaded key cookies) may = with_true (own_may_stand s (Loaded key cookies)) (own_fits r (Loaded key cookies)) may
own_stands r s (Lost key) may = may
own_stands r s (Whole now) may = may
own_stands r s Taken may = may
own_stands r s (Acked place) may = may
own_stands r s (CommitLost place) may = may

-- ---- the step

not_loaded : (b : Bool) → b ≡ true → not b ≡ false
not_loaded b e = ap not e

lost_step : (b : Bool) (cookies : List Cookie) (l : Loads) → part l.keys cookies ≡ part (lost_where b l).keys cookies
lost_step true cookies l = refl
lost_step false cookies l = refl

module _ (r : Rules) (rows : List Row) (s : JarState) (fit : StateFits r rows s) where
  -- all keys are loaded where the jar becomes whole
  all_there : (now : ℕ) → own_may_stand s (Whole now) ≡ true → s.loads.keys.unloaded ≡ []
  all_there now may =
      none_left s.loads.keys.unloaded
      (both (not s.loads.whole) (all_loaded s.loads.keys) (both (may_load (Whole now) s.loads) (may_commit (Whole now) s.batches) may).0).1

  load_away : (key : List ℕ) (cookies : List Cookie) → own_may_stand s (Loaded key cookies) ≡ true
      → is_loaded key s.loads.keys ≡ false
  load_away key cookies may =
      not_loaded (has_text key s.loads.keys.unloaded)
      (fit.loads.begun key (both (may_load (Loaded key cookies) s.loads) (may_commit (Loaded key cookies) s.batches) may).0)

  pub own_step_part : (own : Own) → own_may_stand s own ≡ true → OwnIsHonest r rows own
      → own_step (loaded_part s) own ≡ own_part (own_step s (unlisted_own own))
  own_step_part (Want key) may honest = refl
  own_step_part WantAll may honest = refl
  own_step_part (Begun key) may honest = refl
  own_step_part (Loaded key cookies) may honest =
      ap (λ cs. let step : OwnStepped = record {
        state = record s {
          cookies = cs;
          loads = own_loads (Loaded key cookies) s.loads;
          batches = own_batches (s.entries + 1) (Loaded key cookies) s.batches;
        };
        changes = [];
      } in
      step)
      (ap (λ cs. loaded_among cs (part s.loads.keys s.cookies)) honest
      ∙ load_part r rows s.loads.keys s.cookies fit.cookies key (load_away key cookies may))
  own_step_part (Lost key) may honest =
      ap (λ cs. let step : OwnStepped = record {
        state = record s {
          cookies = cs;
          loads = own_loads (Lost key) s.loads;
          batches = own_batches (s.entries + 1) (Lost key) s.batches;
        };
        changes = [];
      } in
      step)
      (lost_step s.loads.all_wanted s.cookies (record s.loads { keys = with_lost key s.loads.keys }))
  own_step_part (Whole now) may honest =
      ap (λ all. let step : OwnStepped = record {
        state = record s {
          cookies = all.cookies;
          loads = own_loads (Whole now) s.loads;
          batches = own_batches (s.entries + 1) (Whole now) s.batches;
        };
        changes = all.changes;
      } in
      step)
      (change_part s.loads.keys (all_there now may) (swept now) s.cookies)
  own_step_part Taken may honest = refl
  own_step_part (Acked place) may honest = refl
  own_step_part (CommitLost place) may honest = refl

  pub own_rows_part : (own : Own) → own_may_stand s own ≡ true
      → own_rows (unlisted_own own) s.cookies ≡ own_rows own (part s.loads.keys s.cookies)
  own_rows_part (Want key) may = refl
  own_rows_part WantAll may = refl
  own_rows_part (Begun key) may = refl
  own_rows_part (Loaded key cookies) may = refl
  own_rows_part (Lost key) may = refl
  own_rows_part (Whole now) may =
      ap (λ cs. row_changes cs (swept now cs).cookies) (sym (part_whole s.loads.keys (all_there now may) s.cookies))
  own_rows_part Taken may = refl
  own_rows_part (Acked place) may = refl
  own_rows_part (CommitLost place) may = refl

  -- ---- what stays so

  still_away : (key other : List ℕ) (keys : List (List ℕ))
      → not (has_text other (without_text key keys)) ≡ false → not (has_text other keys) ≡ false
  still_away key other keys e =
      let has = sym (without_has key other keys) ∙ has_from (has_text other (without_text key keys)) (ap not e) in
      ap not (both (has_text other keys) (not (bytes_eq key other)) has).0

  lost_cookies : (b : Bool) (key : List ℕ)
      → CookiesFit r rows (lost_where b (record s.loads { keys = with_lost key s.loads.keys })).keys s.cookies
  lost_cookies true key = record { rises = fit.cookies.rises; keyed = fit.cookies.keyed; stored = fit.cookies.stored }
  lost_cookies false key = record { rises = fit.cookies.rises; keyed = fit.cookies.keyed; stored = fit.cookies.stored }

  pub own_cookies : (own : Own) → own_may_stand s own ≡ true
      → CookiesFit r rows (own_step s (unlisted_own own)).state.loads.keys (own_step s (unlisted_own own)).state.cookies
  own_cookies (Want key) may = record { rises = fit.cookies.rises; keyed = fit.cookies.keyed; stored = fit.cookies.stored }
  own_cookies WantAll may = fit.cookies
  own_cookies (Begun key) may = record { rises = fit.cookies.rises; keyed = fit.cookies.keyed; stored = fit.cookies.stored }
  own_cookies (Loaded key cookies) may = record {
    rises = fit.cookies.rises;
    keyed = fit.cookies.keyed;
    stored = λ other e. fit.cookies.stored other (still_away key other s.loads.keys.unloaded e);
  }
  own_cookies (Lost key) may = lost_cookies s.loads.all_wanted key
  own_cookies (Whole now) may = record {
    rises = swept_rises now s.cookies fit.cookies.rises;
    keyed = swept_keyed r now s.cookies fit.cookies.keyed;
    stored =
        λ key e.
        let no : false ≡ true = sym e ∙ ap (λ keys. not (list_any (bytes_eq key) keys)) (all_there now may) in
        absurd cc;
  }
  own_cookies Taken may = fit.cookies
  own_cookies (Acked place) may = fit.cookies
  own_cookies (CommitLost place) may = fit.cookies

  pub own_keeps : (own : Own) → own_may_stand s own ≡ true → StateFits r rows (own_step s (unlisted_own own)).state
  own_keeps own may = record {
    loads =
        own_fit (unlisted_own own) s.loads (same_may own s.loads ∙ (both (may_load own s.loads) (may_commit own s.batches) may).0) fit.loads;
    cookies = own_cookies own may;
  }
