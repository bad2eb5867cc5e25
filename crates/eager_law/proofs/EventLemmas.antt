-- One event: the jar that loads and the one in which all is loaded make the same of it.
use Rattle.std.proofs.Common.{◌≡◌, ℕ, List, Bool, true, false, cond, Option, None, Some, refl, sym, ap, ◌∙◌, subst}
use Rattle.std.specs.Prelude.{filter, not, ◌&&◌, nat_lt, is_none, option_map}
use Rattle.std.specs.List.{AllByRecursion}
use Rattle.std.specs.Option.{option_or}
use Rattle.jar_types.specs.declared.cookie.Cookie.{Cookie}
use Rattle.jar_types.specs.declared.entry.Own.{Own}
use Rattle.jar_types.specs.declared.entry.Event.{Event}
use Rattle.jar_types.specs.declared.entry.Event.TheVariants.{Call as CallEvent, Jar as JarEvent}
use Rattle.jar_types.specs.declared.entry.Entry.TheVariants.{Call}
use Rattle.jar_types.specs.declared.jar_core.Awaited.{Awaited}
use Rattle.jar_types.specs.declared.jar_core.Awaited.TheVariants as awaited
use Rattle.jar_types.specs.declared.jar_core.CoreRefusal.TheVariants.{Pending, NotYet}
use Rattle.jar_types.specs.declared.op.Op.{Op}
use Rattle.jar_types.specs.declared.op.Op.TheVariants.{Bind, Set, Get, Delete, All, Clear, Listen, Changes, Unlisten, Post, Hear}
use Rattle.jar_types.specs.declared.row.Row.{Row}
use Rattle.jar_types.specs.Journals.{Rules, is_well_keyed, own_fits, stands}
use Rattle.jar_types.specs.Loads.{KeyLoads, Loads, has_text}
use Rattle.jar_types.specs.Posts.{op_wanting}
use Rattle.jar_types.specs.RowChanges.{row_changes}
use Rattle.jar_types.specs.States.{JarState, Stepped}
use Rattle.jar_types.specs.Steps.{after, batched, call_step, call_where, called, changes_at, entry_of, noted, op_step, own_may_stand, own_moment, own_step, rows_at, told}
use Rattle.jar_types.specs.Stored.{OwnIsHonest}
use Rattle.jar_types.specs.Waits.{faulted, is_lost, is_there, needs, op_waits, pending, unmarked}
use Rattle.jar_types.proofs.RisingLemmas.{event_rises}
use Rattle.eager_law.specs.Eager.{unlisted_own, unlisted_entry, loaded_part}
use Rattle.eager_law.proofs.PartLemmas.{part, rest, IsKeyed, both}
use Rattle.eager_law.proofs.SetLemmas.{with_part}
use Rattle.eager_law.proofs.OpLemmas.{IsMet, op_part, op_rest, op_keyed, op_loads}
use Rattle.eager_law.proofs.RowLemmas.{rows_part}
use Rattle.eager_law.proofs.LoadLemmas.{LoadsFit}
use Rattle.eager_law.proofs.LoadedLemmas.{stored_still}
use Rattle.eager_law.proofs.OwnLemmas.{StateFits, own_part, same_moment, own_stands, own_step_part, own_rows_part, own_keeps}

-- the same event, where its load lists nothing
abbrev pub unlisted_event : Event → Event
unlisted_event (CallEvent caller now op) = CallEvent caller now op
unlisted_event (JarEvent own) = JarEvent (unlisted_own own)

-- what it loads is what is stored
abbrev pub EventIsHonest : Rules → List Row → Event → Type 0
EventIsHonest r rows (CallEvent caller now op) = Unit {0}
EventIsHonest r rows (JarEvent own) = OwnIsHonest r rows own

-- what a call leads to, as the jar has it that loads
abbrev step_part : Stepped → Stepped
step_part step = record { state = loaded_part step.state; reply = step.reply; changes = step.changes }

-- ---- what a call that may come needs is there, unless it was lost

met_at : (there lost : Bool) (what : Awaited) → is_none (cond (not there && not lost) (Some what) None) ≡ true
    → cond (not there && lost) (Some what) None ≡ None → there ≡ true
met_at true lost what wait fault = refl
met_at false true what wait fault = absurd cc
met_at false false what wait fault = absurd cc

met : (l : Loads) (what : Option Awaited) → is_none (pending l what) ≡ true → faulted l what ≡ None → IsMet l what
met l None wait fault = tt
met l (Some what) wait fault = met_at (is_there l what) (is_lost l what) what wait fault

not_pending : (what : Option Awaited) (found : Option ℕ)
    → is_none (option_or (option_map (λ w. Pending w) what) (option_map (λ n. NotYet n) found)) ≡ true
    → is_none what ≡ true
not_pending None found e = refl
not_pending (Some what) found e = absurd cc

-- an op waits alike in both jars
same_wanting : (s : JarState) (op : Op) → op_wanting (loaded_part s) op ≡ op_wanting s op
same_wanting s (Bind key) = refl
same_wanting s (Set cookie script secure) = refl
same_wanting s (Get request) = refl
same_wanting s (Delete key id) = refl
same_wanting s All = refl
same_wanting s Clear = refl
same_wanting s (Listen scope) = refl
same_wanting s (Changes number) = refl
same_wanting s (Unlisten number) = refl
same_wanting s Post = refl
same_wanting s (Hear actor n) = refl

same_waits : (s : JarState) (op : Op) → op_waits (loaded_part s) op ≡ op_waits s op
same_waits s op =
    ap (λ found. option_or (option_map (λ what. Pending what) (pending s.loads (needs op))) (option_map (λ n. NotYet n) found))
    (same_wanting s op)

-- ---- a call

fault_unloaded : (s : JarState) (what : Awaited) → (unmarked what s.loads).keys.unloaded ≡ s.loads.keys.unloaded
fault_unloaded s (awaited.Key key) = refl
fault_unloaded s awaited.All = refl

fault_fits : (what : Awaited) (l : Loads) → LoadsFit l → LoadsFit (unmarked what l)
fault_fits (awaited.Key key) l fit = record { wanted = fit.wanted; begun = fit.begun; whole = fit.whole }
fault_fits awaited.All l fit = record { wanted = fit.wanted; begun = fit.begun; whole = fit.whole }

-- what is loaded depends on what isn't
same_part : (l l' : KeyLoads) → l.unloaded ≡ l'.unloaded → (cookies : List Cookie) → part l cookies ≡ part l' cookies
same_part l l' e cookies = ap (λ keys. filter (λ c. not (has_text c.key keys)) cookies) e

module _ (r : Rules) (rows : List Row) (s : JarState) (fit : StateFits r rows s) (caller now : ℕ) (op : Op) (keyed : is_well_keyed r op ≡ true) where
  call_part : (fault : Option Awaited) → (fault ≡ None → IsMet s.loads (needs op))
      → call_where fault (loaded_part s) caller now op ≡ step_part (call_where fault s caller now op)
  call_part (Some (awaited.Key key)) is_met = refl
  call_part (Some awaited.All) is_met = refl
  call_part None is_met =
      let step = op_step s caller now op in
      op_part r s fit.loads.whole fit.cookies.keyed caller now op keyed (is_met refl)
      ∙ ap (λ l. with_part l.keys step) (sym (op_loads s caller now op))

  call_rest : (fault : Option Awaited) → (fault ≡ None → IsMet s.loads (needs op))
      → rest s.loads.keys (call_where fault s caller now op).state.cookies ≡ rest s.loads.keys s.cookies
  call_rest (Some what) is_met = refl
  call_rest None is_met = op_rest r s fit.loads.whole fit.cookies.keyed caller now op keyed (is_met refl) fit.cookies.rises

  call_keyed : (fault : Option Awaited) → (fault ≡ None → IsMet s.loads (needs op))
      → AllByRecursion (IsKeyed r) (call_where fault s caller now op).state.cookies
  call_keyed (Some what) is_met = fit.cookies.keyed
  call_keyed None is_met = op_keyed r s fit.loads.whole fit.cookies.keyed caller now op keyed (is_met refl)

  call_unloaded : (fault : Option Awaited)
      → (call_where fault s caller now op).state.loads.keys.unloaded ≡ s.loads.keys.unloaded
  call_unloaded (Some what) = fault_unloaded s what
  call_unloaded None = ap (λ l. l.keys.unloaded) (op_loads s caller now op)

  call_loads : (fault : Option Awaited) → LoadsFit (call_where fault s caller now op).state.loads
  call_loads (Some what) = fault_fits what s.loads fit.loads
  call_loads None = subst LoadsFit (sym (op_loads s caller now op)) fit.loads

-- ---- the event

-- both jars make the same of the event, and the eager one stays as it is to be
pub record Agrees (r : Rules) (stored : List Row) (s : JarState) (v : Event) : Type 0 where
  pub fits : StateFits r stored (after s (unlisted_event v))
  pub standing : stands r s (unlisted_event v) ≡ true
  pub entry : entry_of s (unlisted_event v) ≡ unlisted_entry (entry_of (loaded_part s) v)
  pub changes : changes_at s (unlisted_event v) ≡ changes_at (loaded_part s) v
  pub rows : rows_at s (unlisted_event v) ≡ rows_at (loaded_part s) v
  pub then : loaded_part (after s (unlisted_event v)) ≡ after (loaded_part s) v

call_agrees : (r : Rules) (rows : List Row) (s : JarState) → StateFits r rows s → (caller now : ℕ) (op : Op)
    → stands r (loaded_part s) (CallEvent caller now op) ≡ true → Agrees r rows s (CallEvent caller now op)
call_agrees r rows s fit caller now op may =
    let keyed_and = is_well_keyed r op && is_none (op_waits (loaded_part s) op) in
    let parts = both (nat_lt caller r.callers) (nat_lt s.calls r.limit && keyed_and) may in
    let parts' = both (nat_lt s.calls r.limit) keyed_and parts.1 in
    let keyed = both (is_well_keyed r op) (is_none (op_waits (loaded_part s) op)) parts'.1 in
    let waits = not_pending (pending s.loads (needs op)) (op_wanting (loaded_part s) op) keyed.1 in
    let fault = faulted s.loads (needs op) in
    let is_met = met s.loads (needs op) waits in
    let step = call_step s caller now op in
    let same : call_step (loaded_part s) caller now op ≡ step_part step = call_part r rows s fit caller now op keyed.0 fault is_met in
    let later = call_keyed r rows s fit caller now op keyed.0 fault is_met in
    let stays = call_rest r rows s fit caller now op keyed.0 fault is_met in
    let left = call_unloaded r rows s fit caller now op keyed.0 fault in
    let l = s.loads.keys in
    let l' = step.state.loads.keys in
    let changed : rows_at s (CallEvent caller now op) ≡ rows_at (loaded_part s) (CallEvent caller now op) =
    sym (ap (λ t. row_changes (part l s.cookies) t.state.cookies) same
    ∙ ap (row_changes (part l s.cookies)) (same_part l' l left step.state.cookies)
    ∙ rows_part r l s.cookies step.state.cookies fit.cookies.keyed later stays) in
    record {
      fits = record {
        loads = call_loads r rows s fit caller now op keyed.0 fault;
        cookies = record {
          rises = event_rises s (CallEvent caller now op) fit.cookies.rises;
          keyed = later;
          stored =
              λ key e.
              stored_still r rows l s.cookies step.state.cookies fit.cookies stays key
              (sym (ap (λ keys. not (has_text key keys)) left) ∙ e);
        };
      };
      standing = ap (λ w. nat_lt caller r.callers && (nat_lt s.calls r.limit && (is_well_keyed r op && is_none w))) (sym (same_waits s op)) ∙ may;
      entry = ap (λ t. Call caller now op t.reply) (sym same);
      changes = ap (λ t. t.changes) (sym same);
      rows = changed;
      then =
          ap (λ ch. called (batched ch (told now step.changes (loaded_part step.state)))) changed
          ∙ ap (λ t. called (batched (rows_at (loaded_part s) (CallEvent caller now op)) (told now t.changes t.state))) (sym same);
    }

own_agrees : (r : Rules) (rows : List Row) (s : JarState) → StateFits r rows s → (own : Own)
    → stands r (loaded_part s) (JarEvent own) ≡ true
    → OwnIsHonest r rows own → Agrees r rows s (JarEvent own)
own_agrees r rows s fit own may honest =
    let parts = both (own_may_stand s own) (own_fits r own) may in
    let step = own_step s (unlisted_own own) in
    let same : own_step (loaded_part s) own ≡ own_part step = own_step_part r rows s fit own parts.0 honest in
    let changed = own_rows_part r rows s fit own parts.0 in
    let keeps = own_keeps r rows s fit own parts.0 in
    record {
      fits = record {
        loads = keeps.loads;
        cookies = record { rises = keeps.cookies.rises; keyed = keeps.cookies.keyed; stored = keeps.cookies.stored };
      };
      standing = own_stands r s own may;
      entry = refl;
      changes = ap (λ t. t.changes) (sym same);
      rows = changed;
      then =
          ap (λ ch. noted (batched ch (told (own_moment (unlisted_own own)) step.changes (loaded_part step.state)))) changed
          ∙ ap (λ now. noted (batched (rows_at (loaded_part s) (JarEvent own)) (told now step.changes (loaded_part step.state)))) (same_moment own)
          ∙ ap (λ t. noted (batched (rows_at (loaded_part s) (JarEvent own)) (told (own_moment own) t.changes t.state))) (sym same);
    }

pub event_agrees : (r : Rules) (rows : List Row) (s : JarState) → StateFits r rows s → (v : Event)
    → stands r (loaded_part s) v ≡ true
    → EventIsHonest r rows v → Agrees r rows s v
event_agrees r rows s fit (CallEvent caller now op) may honest = call_agrees r rows s fit caller now op may
event_agrees r rows s fit (JarEvent own) may honest = own_agrees r rows s fit own may honest
