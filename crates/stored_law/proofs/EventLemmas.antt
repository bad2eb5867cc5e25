-- Each event keeps what is held beside a jar.
use Rattle.std.proofs.Common.{◌≡◌, ℕ, List, Bool, true, false, cond, refl, Option, None, Some}
use Rattle.std.specs.Prelude.{not, ◌&&◌, is_none, option_map, nat_lt}
use Rattle.std.specs.Option.{option_or}
use Rattle.std.proofs.lemmas.Bool.{and_parts, not-true}
use Rattle.jar_types.specs.declared.entry.Event.TheVariants.{Call as CallEvent, Jar as JarEvent}
use Rattle.jar_types.specs.declared.entry.Own.{Own}
use Rattle.jar_types.specs.declared.entry.Own.TheVariants.{Want, WantAll, Begun, Loaded, Lost, Whole, Taken, Acked, CommitLost}
use Rattle.jar_types.specs.declared.jar_core.Awaited.{Awaited}
use Rattle.jar_types.specs.declared.jar_core.Awaited.TheVariants as awaited
use Rattle.jar_types.specs.declared.jar_core.CoreRefusal.{CoreRefusal}
use Rattle.jar_types.specs.declared.jar_core.CoreRefusal.TheVariants.{Pending, NotYet}
use Rattle.jar_types.specs.declared.op.Op.{Op}
use Rattle.jar_types.specs.declared.op.Op.TheVariants.{Bind, Set, Get, Delete, All, Clear, Listen, Changes, Unlisten, Post, Hear}
use Rattle.jar_types.specs.declared.row.Row.{Row}
use Rattle.jar_types.specs.Evictions.{swept}
use Rattle.jar_types.specs.Journals.{Rules, key_at, is_well_keyed, stands}
use Rattle.jar_types.specs.Loads.{Loads, has_text, own_loads, may_load, lost_where, with_lost}
use Rattle.jar_types.specs.Posts.{op_wanting}
use Rattle.jar_types.specs.RowChanges.{changed_rows, row_changes, RowsRise}
use Rattle.jar_types.specs.States.{JarState}
use Rattle.jar_types.specs.Steps.{call_where, rows_at, after}
use Rattle.jar_types.specs.Stored.{OwnIsHonest}
use Rattle.jar_types.specs.Waits.{needs, is_there, is_lost, faulted, op_waits}
use Rattle.jar_types.proofs.RisingLemmas.{event_rises, swept_rises}
use Rattle.stored_law.specs.Keeping.{OpIsStorable}
use Rattle.stored_law.proofs.EachLemmas.{OpHas, op_each, swept_each}
use Rattle.stored_law.proofs.KeepLemmas.{IsOwn, own_over, own_at, AllOwn, Keeps, changed_keeps, rekeyed}
use Rattle.stored_law.proofs.KeyLemmas.{call_keys, still_unloaded, own_unloaded}
use Rattle.stored_law.proofs.LoadedLemmas.{loaded_keeps}
use Rattle.stored_law.proofs.TextLemmas.{text_is}

-- ---- a call

there_from : (there lost : Bool) (what : Awaited) (rest : Option CoreRefusal)
    → is_none (option_or (option_map (λ w. Pending w) (cond (not there && not lost) (Some what) None)) rest) ≡ true
    → cond (not there && lost) (Some what) None ≡ None → there ≡ true
there_from true lost what rest waits fault = refl
there_from false true what rest waits fault = absurd cc
there_from false false what rest waits fault = absurd cc

-- what a Set stores is own where its key is loaded
op_has : (r : Rules) (s : JarState) (now : ℕ) (op : Op) → OpIsStorable now op → is_well_keyed r op ≡ true → is_none (op_waits s op) ≡ true
    → faulted s.loads (needs op) ≡ None → OpHas (IsOwn r s.loads.keys.unloaded) now op
op_has r s now (Bind key) can keyed waits fault = tt
op_has r s now (Set cookie script secure) can keyed waits fault =
    let what = awaited.Key cookie.key in
    let op = Set cookie script secure in
    let there = there_from (is_there s.loads what) (is_lost s.loads what) what (option_map (λ found. NotYet found) (op_wanting s op)) waits fault in
    record {
      key = text_is cookie.key (key_at r cookie.host) keyed;
      loaded = not-true (has_text cookie.key s.loads.keys.unloaded) there;
      storable = can;
    }
op_has r s now (Get request) can keyed waits fault = λ d is. own_at r s.loads.keys.unloaded now d can is
op_has r s now (Delete key id) can keyed waits fault = tt
op_has r s now All can keyed waits fault = tt
op_has r s now Clear can keyed waits fault = tt
op_has r s now (Listen scope) can keyed waits fault = tt
op_has r s now (Changes number) can keyed waits fault = tt
op_has r s now (Unlisten number) can keyed waits fault = tt
op_has r s now Post can keyed waits fault = tt
op_has r s now (Hear actor n) can keyed waits fault = tt

call_own : (r : Rules) (fault : Option Awaited) (s : JarState) (caller now : ℕ) (op : Op) → (fault ≡ None → OpHas (IsOwn r s.loads.keys.unloaded) now op)
    → AllOwn r s.loads.keys.unloaded s.cookies → AllOwn r s.loads.keys.unloaded (call_where fault s caller now op).state.cookies
call_own r (Some what) s caller now op has own = own
call_own r None s caller now op has own =
    op_each (IsOwn r s.loads.keys.unloaded) (λ old c was is. own_over r s.loads.keys.unloaded old c was is) s caller now op (has refl) own

pub call_keeps : (r : Rules) (rows held : List Row) (s : JarState) (caller now : ℕ) (op : Op) → Keeps r rows held s.cookies s.loads.keys
    → stands r s (CallEvent caller now op) ≡ true → OpIsStorable now op
    → Keeps r rows (changed_rows held (rows_at s (CallEvent caller now op))) (after s (CallEvent caller now op)).cookies (after s (CallEvent caller now op)).loads.keys
call_keeps r rows held s caller now op k stand can =
    let fault = faulted s.loads (needs op) in
    let step = call_where fault s caller now op in
    let p0 = and_parts (nat_lt caller r.callers) (nat_lt s.calls r.limit && (is_well_keyed r op && is_none (op_waits s op))) stand in
    let p1 = and_parts (nat_lt s.calls r.limit) (is_well_keyed r op && is_none (op_waits s op)) p0.1 in
    let p2 = and_parts (is_well_keyed r op) (is_none (op_waits s op)) p1.1 in
    let own = call_own r fault s caller now op (λ none. op_has r s now op can p2.0 p2.1 none) k.own in
    let same = call_keys fault s caller now op in
    rekeyed r rows (changed_rows held (row_changes s.cookies step.state.cookies)) step.state.cookies s.loads.keys step.state.loads.keys
    (changed_keeps r rows held step.state.cookies s.cookies s.loads.keys k (event_rises s (CallEvent caller now op) k.ids) own)
    same.unloaded
    (still_unloaded s.loads.keys step.state.loads.keys same k.keys)

-- ---- what the jar does itself

lost_unloaded_same : (b : Bool) (key : List ℕ) (l : Loads) → (lost_where b (record l { keys = with_lost key l.keys })).keys.unloaded ≡ l.keys.unloaded
lost_unloaded_same true key l = refl
lost_unloaded_same false key l = refl

-- a want, a beginning, a loss, or a batch
still : (r : Rules) (rows held : List Row) (s : JarState) (own : Own) → Keeps r rows held s.cookies s.loads.keys → may_load own s.loads ≡ true
    → (own_loads own s.loads).keys.unloaded ≡ s.loads.keys.unloaded → Keeps r rows held s.cookies (own_loads own s.loads).keys
still r rows held s own k may same =
    rekeyed r rows held s.cookies s.loads.keys (own_loads own s.loads).keys k same (own_unloaded own s.loads may k.keys)

pub own_keeps : (r : Rules) (rows held : List Row) (s : JarState) (own : Own) → RowsRise rows → Keeps r rows held s.cookies s.loads.keys
    → may_load own s.loads ≡ true → OwnIsHonest r rows own
    → Keeps r rows (changed_rows held (rows_at s (JarEvent own))) (after s (JarEvent own)).cookies (after s (JarEvent own)).loads.keys
own_keeps r rows held s (Want key) rises k may honest = still r rows held s (Want key) k may refl
own_keeps r rows held s WantAll rises k may honest = still r rows held s WantAll k may refl
own_keeps r rows held s (Begun key) rises k may honest = still r rows held s (Begun key) k may refl
own_keeps r rows held s (Loaded key cookies) rises k may honest =
    rw honest (loaded_keeps r rows held s.cookies s.loads.keys key rises (k.keys.begun key may) k)
own_keeps r rows held s (Lost key) rises k may honest = still r rows held s (Lost key) k may (lost_unloaded_same s.loads.all_wanted key s.loads)
own_keeps r rows held s (Whole now) rises k may honest =
    changed_keeps r rows held (swept now s.cookies).cookies s.cookies s.loads.keys k (swept_rises now s.cookies k.ids)
    (swept_each (IsOwn r s.loads.keys.unloaded) (λ old c was is. own_over r s.loads.keys.unloaded old c was is) now s.cookies k.own)
own_keeps r rows held s Taken rises k may honest = k
own_keeps r rows held s (Acked place) rises k may honest = k
own_keeps r rows held s (CommitLost place) rises k may honest = k
