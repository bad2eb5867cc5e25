-- Loads of stored cookies into a locked jar, a key at a time. This jar's own rule: docs/DEFINITIONS.md.
use Rattle.std.specs.Prelude.{◌≡◌, ◌⊎◌, ◌≤◌, ◌<◌, ℕ, List, Bool, true, false, ◌&&◌, None, Some, is_none, Result, Ok, Err}
use Rattle.jar_edge.specs.Faults.{Rose}
use Rattle.jar_types.specs.declared.cookie.Cookie.{Cookie}
use Rattle.jar_types.specs.declared.entry.Own.TheVariants.{Begun, Loaded, Lost, Whole}
use Rattle.jar_types.specs.declared.row.Row.{Row}
use Rattle.jar_types.specs.Journals.{Rules, own_fits}
use Rattle.jar_types.specs.Loads.{next_key}
use Rattle.jar_types.specs.States.{JarState}
use Rattle.jar_types.specs.Steps.{own_may_stand}
use Rattle.public_suffix.specs.Suffix.{key_of}
use Rattle.stored_law.specs.HostLoads.{cookies_of_hosts, hosts_of_key}
use Rattle.version_cells.specs.Standing.{PassStanding}
use Rattle.locked_jar.specs.LockedJars.{LockedJar}
use Rattle.store_vault.specs.declared.refusal.LoadRefusal.{LoadRefusal}
use Rattle.store_vault.specs.declared.refusal.LoadRefusal.TheVariants.{StoreFault, NoMemory, Spent}
use Rattle.store_vault.specs.declared.refusal.LoadStep.{LoadStep}
use Rattle.store_vault.specs.declared.refusal.LoadStep.TheVariants.{Key, Whole as IsWhole, Idle}
use Rattle.store_vault.specs.declared.stored.Stored.{Stored}
use Rattle.store_vault.specs.declared.vault.TheConstants.{MOST_OWNS}
use Rattle.store_vault.specs.Cutting.{HasCut, HasDone, Stays, did, did_if_may}

-- the rules of a jar over these stored hosts, for so many callers who may have so many entries
abbrev pub rules_of : Stored → ℕ → ℕ → Rules
rules_of stored callers limit = record {
  hosts = stored.hosts;
  callers = callers;
  limit = limit;
  start = stored.start;
  key_of = key_of stored.suffixes;
}

-- the key whose load is next was loaded with these cookies, which it may list
pub record LoadsKey (stored : Stored) (old new : LockedJar) (p q : PassStanding) : Type 0 where
  pub key : List ℕ
  pub cookies : List Cookie
  pub n : ℕ
  pub next : next_key old.state.loads.keys ≡ Some key
  pub fits : own_fits (rules_of stored 0 0) (Loaded key cookies) ≡ true
  pub is : new ≡ did p.view.number (did_if_may p.view.number old (Begun key)) (Loaded key cookies)
  pub cut : HasCut n old new p q
  pub few : n ≤ 2

-- its load was lost
pub record LosesKey (old new : LockedJar) (p q : PassStanding) : Type 0 where
  pub key : List ℕ
  pub n : ℕ
  pub next : next_key old.state.loads.keys ≡ Some key
  pub is : new ≡ did p.view.number (did_if_may p.view.number old (Begun key)) (Lost key)
  pub cut : HasCut n old new p q
  pub few : n ≤ 2

-- its load began and has no end yet
pub record BeginsKey (old new : LockedJar) (p q : PassStanding) : Type 0 where
  pub key : List ℕ
  pub next : next_key old.state.loads.keys ≡ Some key
  pub may : own_may_stand old.state (Begun key) ≡ true
  pub is : new ≡ did p.view.number old (Begun key)
  pub cut : HasCut 1 old new p q

-- the jar became whole at its start
pub record BecomesWhole (stored : Stored) (old new : LockedJar) (p q : PassStanding) : Type 0 where
  pub none : next_key old.state.loads.keys ≡ None
  pub part : old.state.loads.whole ≡ false
  pub is : new ≡ did p.view.number old (Whole stored.start)
  pub cut : HasCut 1 old new p q

-- nothing is left to load: each key is, and the jar is whole
abbrev pub is_idle : JarState → Bool
is_idle s = s.loads.whole && is_none (next_key s.loads.keys)

-- what a load did, by its answer; but where nothing is left to load, the vault owned fewer entries than it may before
abbrev pub IsLoad : Stored → ℕ → LockedJar → LockedJar → PassStanding → PassStanding → Result LoadStep LoadRefusal → Type 0
IsLoad stored owns old new p q (Ok Idle) = (is_idle old.state ≡ true) × Stays old new p q
IsLoad stored owns old new p q (Ok IsWhole) = (owns < MOST_OWNS) × BecomesWhole stored old new p q
IsLoad stored owns old new p q (Ok Key) = (owns < MOST_OWNS) × LoadsKey stored old new p q
IsLoad stored owns old new p q (Err StoreFault) = (owns < MOST_OWNS) × LosesKey old new p q
IsLoad stored owns old new p q (Err NoMemory) =
    (is_idle old.state ≡ false) × (owns < MOST_OWNS) × (Stays old new p q ⊎ BeginsKey old new p q)
IsLoad stored owns old new p q (Err Spent) = (is_idle old.state ≡ false) × (MOST_OWNS ≤ owns) × Stays old new p q

-- the stored cookies of a key, where the keeper holds these rows: those of its hosts, host after host
abbrev pub cookies_over : Rules → List Row → List ℕ → List Cookie
cookies_over r held key = cookies_of_hosts r held (hosts_of_key r key r.hosts)

-- the cookies of a key that was loaded are those of its hosts, where the keeper holds these rows
abbrev pub IsLoadOver : Rules → List Row → LockedJar → LockedJar → PassStanding → Result LoadStep LoadRefusal → Type 0
IsLoadOver r held old new p (Ok Key) =
    (key : List ℕ) → next_key old.state.loads.keys ≡ Some key
    → new ≡ did p.view.number (did_if_may p.view.number old (Begun key)) (Loaded key (cookies_over r held key))
IsLoadOver r held old new p (Ok IsWhole) = Unit {0}
IsLoadOver r held old new p (Ok Idle) = Unit {0}
IsLoadOver r held old new p (Err refusal) = Unit {0}

-- the keeper's count rose just at a StoreFault; or where no memory was left to tell so, and then the vault is starved
abbrev pub CountsLoad : ℕ → ℕ → Bool → Bool → Result LoadStep LoadRefusal → Type 0
CountsLoad before now starved starved' (Ok step) = (now ≡ before) × (starved' ≡ starved)
CountsLoad before now starved starved' (Err StoreFault) = Rose before now × (starved' ≡ starved)
CountsLoad before now starved starved' (Err NoMemory) = ((now ≡ before) × (starved' ≡ starved)) ⊎ (Rose before now × (starved' ≡ true))
CountsLoad before now starved starved' (Err Spent) = (now ≡ before) × (starved' ≡ starved)

-- ---- that no public clause cites

-- the load of a key begins, where it may
abbrev pub BeginsIfMay : Bool → List ℕ → LockedJar → LockedJar → PassStanding → PassStanding → Type 0
BeginsIfMay true key old new p q = HasDone (Begun key) old new p q
BeginsIfMay false key old new p q = Stays old new p q
