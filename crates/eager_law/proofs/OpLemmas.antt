-- An op that needs nothing that isn't loaded: in the part it is what it is in all, and what isn't
-- loaded stays.
use Rattle.std.proofs.Common.{◌≡◌, ℕ, [], true, Option, None, Some, refl, sym, ap, ◌∙◌}
use Rattle.std.specs.Prelude.{not}
use Rattle.std.specs.List.{AllByRecursion}
use Rattle.jar_types.specs.declared.jar_core.Awaited.{Awaited}
use Rattle.jar_types.specs.declared.op.Op.{Op}
use Rattle.jar_types.specs.declared.op.Op.TheVariants.{Bind, Set, Get, Delete, All, Clear, Listen, Changes, Unlisten, Post, Hear}
use Rattle.jar_types.specs.Ids.{RisesById}
use Rattle.jar_types.specs.Journals.{Rules, key_at, is_well_keyed}
use Rattle.jar_types.specs.Loads.{KeyLoads, Loads}
use Rattle.jar_types.specs.Purges.{is_expired}
use Rattle.jar_types.specs.States.{JarState, Stepped}
use Rattle.jar_types.specs.Steps.{op_step}
use Rattle.jar_types.specs.Waits.{needs, is_there}
use Rattle.jar_types.specs.Wholes.{all_step, clear_step}
use Rattle.eager_law.proofs.MemberLemmas.{kept_all}
use Rattle.eager_law.proofs.PartLemmas.{same_text, part, rest, IsKeyed}
use Rattle.eager_law.proofs.EvictLemmas.{part_whole, change_rest}
use Rattle.eager_law.proofs.SetLemmas.{with_part, set_part, set_rest, set_keyed, set_loads}
use Rattle.eager_law.proofs.GetLemmas.{get_part, get_rest, get_keyed}
use Rattle.eager_law.proofs.DeleteLemmas.{delete_part, delete_rest, delete_keyed}

-- where all is loaded, the part is all
step_whole : (l : KeyLoads) → l.unloaded ≡ [] → (f : JarState → Stepped) (s : JarState)
    → f (record s { cookies = part l s.cookies }) ≡ with_part l (f s)
step_whole l whole f s =
    let step = f s in
    ap (λ cs. f (record s { cookies = cs })) (part_whole l whole s.cookies)
    ∙ ap (λ cs. let same : Stepped = record { state = record step.state { cookies = cs }; reply = step.reply; changes = step.changes } in same)
    (sym (part_whole l whole step.state.cookies))

-- what an op needs is there
abbrev pub IsMet : Loads → Option Awaited → Type 0
IsMet l None = Unit {0}
IsMet l (Some what) = is_there l what ≡ true

module _ (r : Rules) (s : JarState) (whole : s.loads.whole ≡ true → s.loads.keys.unloaded ≡ []) (all : AllByRecursion (IsKeyed r) s.cookies) where
  -- an op does in the part what it does in all
  pub op_part : (caller now : ℕ) (op : Op) → is_well_keyed r op ≡ true → IsMet s.loads (needs op)
      → op_step (record s { cookies = part s.loads.keys s.cookies }) caller now op
      ≡ with_part s.loads.keys (op_step s caller now op)
  op_part caller now (Bind key) keyed met = refl
  op_part caller now (Set cookie script secure) keyed met =
      set_part r s.loads.keys cookie (same_text cookie.key (key_at r cookie.host) keyed) met s now script secure whole all
  op_part caller now (Get request) keyed met = get_part r s.loads.keys request now met s
  op_part caller now (Delete key id) keyed met =
      delete_part r s.loads.keys key id met (same_text key (key_at r id.host) keyed) s now all
  op_part caller now All keyed met = step_whole s.loads.keys (whole met) (λ t. all_step t now) s
  op_part caller now Clear keyed met = step_whole s.loads.keys (whole met) (λ t. clear_step t now) s
  op_part caller now (Listen scope) keyed met = refl
  op_part caller now (Changes number) keyed met = refl
  op_part caller now (Unlisten number) keyed met = refl
  op_part caller now Post keyed met = refl
  op_part caller now (Hear actor n) keyed met = refl

  -- and leaves what isn't loaded
  pub op_rest : (caller now : ℕ) (op : Op) → is_well_keyed r op ≡ true → IsMet s.loads (needs op)
      → RisesById s.cookies
      → rest s.loads.keys (op_step s caller now op).state.cookies ≡ rest s.loads.keys s.cookies
  op_rest caller now (Bind key) keyed met rises = refl
  op_rest caller now (Set cookie script secure) keyed met rises =
      set_rest r s.loads.keys cookie (same_text cookie.key (key_at r cookie.host) keyed) met s now script secure whole all rises
  op_rest caller now (Get request) keyed met rises = get_rest r s.loads.keys request now met s
  op_rest caller now (Delete key id) keyed met rises =
      delete_rest r s.loads.keys key id met (same_text key (key_at r id.host) keyed) s now all
  op_rest caller now All keyed met rises =
      change_rest s.loads.keys (whole met) (all_step s now).state.cookies s.cookies
  op_rest caller now Clear keyed met rises =
      change_rest s.loads.keys (whole met) (clear_step s now).state.cookies s.cookies
  op_rest caller now (Listen scope) keyed met rises = refl
  op_rest caller now (Changes number) keyed met rises = refl
  op_rest caller now (Unlisten number) keyed met rises = refl
  op_rest caller now Post keyed met rises = refl
  op_rest caller now (Hear actor n) keyed met rises = refl

  pub op_keyed : (caller now : ℕ) (op : Op) → is_well_keyed r op ≡ true → IsMet s.loads (needs op)
      → AllByRecursion (IsKeyed r) (op_step s caller now op).state.cookies
  op_keyed caller now (Bind key) keyed met = all
  op_keyed caller now (Set cookie script secure) keyed met =
      set_keyed r s.loads.keys cookie (same_text cookie.key (key_at r cookie.host) keyed) met s now script secure all
  op_keyed caller now (Get request) keyed met = get_keyed r s.loads.keys request now met s all
  op_keyed caller now (Delete key id) keyed met =
      delete_keyed r s.loads.keys key id met (same_text key (key_at r id.host) keyed) s now all
  op_keyed caller now All keyed met = kept_all (IsKeyed r) (λ c. not (is_expired now c)) s.cookies all
  op_keyed caller now Clear keyed met = tt
  op_keyed caller now (Listen scope) keyed met = all
  op_keyed caller now (Changes number) keyed met = all
  op_keyed caller now (Unlisten number) keyed met = all
  op_keyed caller now Post keyed met = all
  op_keyed caller now (Hear actor n) keyed met = all

-- no op loads anything
pub op_loads : (s : JarState) (caller now : ℕ) (op : Op) → (op_step s caller now op).state.loads ≡ s.loads
op_loads s caller now (Bind key) = refl
op_loads s caller now (Set cookie script secure) = set_loads s now cookie script secure
op_loads s caller now (Get request) = refl
op_loads s caller now (Delete key id) = refl
op_loads s caller now All = refl
op_loads s caller now Clear = refl
op_loads s caller now (Listen scope) = refl
op_loads s caller now (Changes number) = refl
op_loads s caller now (Unlisten number) = refl
op_loads s caller now Post = refl
op_loads s caller now (Hear actor n) = refl
