-- How the rounds of a run go on, and how it ends.
use Rattle.std.proofs.Common.{◌≡◌, ◌<◌, ◌≤◌, ℕ, suc, zero, List, [], ◌∷◌, Bool, true, false, length, ap, sym, ◌∙◌, arith, subst}
use Rattle.std.specs.List.{AllByRecursion}
use Rattle.std.specs.List.Sorted.{IsStrictlySortedBy}
use Rattle.atomic_table.specs.Seated.{TableId}
use Rattle.jar_types.specs.declared.row.Row.{Row}
use Rattle.jar_types.specs.Ids.{text_cmp}
use Rattle.jar_types.specs.Journals.{stored_keys}
use Rattle.jar_types.specs.Stored.{hosts_of}
use Rattle.locked_jar.specs.LockedJars.{LockedJar}
use Rattle.script_text.specs.declared.script.Script.{Script}
use Rattle.script_text.specs.Admitted.{IsAdmitted}
use Rattle.shared_jar.specs.Faults.{CountsFaults, faults_in}
use Rattle.store_vault.specs.declared.stored.Stored.{Stored}
use Rattle.script_run.specs.Players.{ArePlaying, PlayersStanding}
use Rattle.script_run.specs.Rounds.{Ends, GoOn, GoOnOver, IsFitting, Over, Service, flushed, flushed_over, gives_of, held_where, is_due, loaded, round, round_over, rounds, rounds_over, rules_of}
use Rattle.script_run.specs.Runs.{Run, is_done, tried_first}
use Rattle.script_run.specs.Services.{EndedOver, FlushedBy, LoadedBy, RoundBy, RoundOver}
use Rattle.script_run.proofs.FaultLemmas.{first_faults, flushed_more, loaded_more}
use Rattle.script_run.proofs.KeepLemmas.{Keeps}
use Rattle.script_run.proofs.RoundLemmas.{begin_keeps, round_goes, to_do}

-- ---- faults are never fewer

-- a commit tells of no fewer
pub flush_more : (force : Bool) (old new : Run) → FlushedBy force old new → faults_in old.journal ≤ faults_in new.journal
flush_more force old new by =
    let more = flushed_more force by.commits old in
    let same = ap (λ (r : Run). faults_in r.journal) by.is in
    omega (arith, more, same)

-- nor does a round
pub round_more : (script : Script) (hosts : List (List ℕ)) (old new : Run) → RoundBy script hosts old new → faults_in old.journal ≤ faults_in new.journal
round_more script hosts old new by =
    let t = tried_first script (length script.actors) old in
    let u = loaded script.start by.service.gives t in
    let first = first_faults script (length script.actors) old in
    let second = loaded_more script.start by.service.gives t in
    let third = flushed_more false by.service.commits u in
    let same = ap (λ (r : Run). faults_in r.journal) by.is in
    omega (arith, first, second, third, same)

-- counts that rose with the faults to here, and from here on, rose with them
pub counts_then : (old mid new : LockedJar) (before between now : ℕ) (starved starved' starved'' : Bool) → CountsFaults old mid before between starved starved'
    → CountsFaults mid new between now starved' starved'' → CountsFaults old new before now starved starved''
counts_then old mid new before between now starved starved' starved'' h k = λ first was. k first (h first was)

-- the players of a jar play over one that has the same
pub playing_at : (script : Script) (stored stored' : Stored) (callers callers' limit limit' : ℕ) (table table' : TableId) (p : PlayersStanding)
    → stored' ≡ stored → callers' ≡ callers → limit' ≡ limit → table' ≡ table
    → ArePlaying script stored' callers' limit' table' p → ArePlaying script stored callers limit table p
playing_at script stored stored' callers callers' limit limit' table table' p same many most cells playing =
    subst (λ s. ArePlaying script s callers limit table p) same
    (subst (λ n. ArePlaying script stored' n limit table p) many
    (subst (λ n. ArePlaying script stored' callers' n table p) most
    (subst (λ t. ArePlaying script stored' callers' limit' t p) cells playing)))

-- ---- whatever the keeper is

-- so far the rounds go on: no round before the last left no turn
pub record Going (script : Script) (hosts : List (List ℕ)) (r : Run) : Type 0 where
  pub last : Service
  pub earlier : List Service
  pub fitting : AllByRecursion (λ service. IsFitting (rules_of script hosts) service.gives) (last ∷ earlier)
  pub is : r ≡ rounds script hosts (last ∷ earlier)
  pub first : GoOn script hosts earlier

pub going-first : (script : Script) (hosts : List (List ℕ)) (r : Run) → RoundBy script hosts (rounds script hosts []) r → Going script hosts r
going-first script hosts r by = record { last = by.service; earlier = []; fitting = (by.fits, tt); is = by.is; first = tt }

pub going-more : (script : Script) (hosts : List (List ℕ)) (r next : Run) → Going script hosts r → is_done script r ≡ false → RoundBy script hosts r next
    → Going script hosts next
going-more script hosts r next going not_yet by = record {
  last = by.service;
  earlier = going.last ∷ going.earlier;
  fitting = (by.fits, going.fitting);
  is = by.is ∙ ap (round script by.service) going.is;
  first = (ap (is_done script) (sym going.is) ∙ not_yet, going.first);
}

pub going-ends : (script : Script) (hosts : List (List ℕ)) (r end : Run) → Going script hosts r → is_done script r ≡ true → FlushedBy true r end → Ends script hosts end
going-ends script hosts r end going done by = record {
  last = going.last;
  earlier = going.earlier;
  commits = by.commits;
  fitting = going.fitting;
  is = by.is ∙ ap (flushed true by.commits) going.is;
  done = ap (is_done script) (sym going.is) ∙ done;
  first = going.first;
}

pub rounds_keep : (script : Script) (hosts : List (List ℕ)) (services : List Service) → IsAdmitted script
    → IsStrictlySortedBy text_cmp (stored_keys (rules_of script hosts)) → Keeps script (rounds script hosts services)
rounds_keep script hosts [] admitted rises = begin_keeps script (stored_keys (rules_of script hosts)) rises
rounds_keep script hosts (service ∷ earlier) admitted rises =
    (round_goes script service (rounds script hosts earlier) admitted (rounds_keep script hosts earlier admitted rises)).keeps

pub going-keeps : (script : Script) (hosts : List (List ℕ)) (r : Run) → IsAdmitted script → IsStrictlySortedBy text_cmp (stored_keys (rules_of script hosts))
    → Going script hosts r → Keeps script r
going-keeps script hosts r admitted rises going =
    subst (Keeps script) (sym going.is) (rounds_keep script hosts (going.last ∷ going.earlier) admitted rises)

pub going-nearer : (script : Script) (hosts : List (List ℕ)) (r next : Run) → IsAdmitted script → Keeps script r → is_done script r ≡ false
    → RoundBy script hosts r next → to_do script next < to_do script r
going-nearer script hosts r next admitted keeps not_yet by =
    let nearer = (round_goes script by.service r admitted keeps).nearer not_yet in
    let same = ap (to_do script) by.is in
    omega (arith, nearer, same)

-- ---- over a keeper that holds rows and never fails

-- so far the rounds go on, and the keeper tells what it holds
pub record GoingOver (script : Script) (rows : List Row) (tells : List Row → Type 0) (r : Run) : Type 0 where
  pub earlier : ℕ
  pub held : List Row
  pub told : tells held
  pub is : record { run = r; held = held } ≡ rounds_over script rows (suc earlier)
  pub first : GoOnOver script rows earlier

over_run : (a b : Over) → a ≡ b → a.run ≡ b.run
over_run a b e = ap (λ (o : Over). o.run) e

pub over-first : (script : Script) (rows : List Row) (tells : List Row → Type 0) (r : Run)
    → RoundOver script (hosts_of rows) tells rows (rounds script (hosts_of rows) []) r → GoingOver script rows tells r
over-first script rows tells r by = record { earlier = zero; held = by.later; told = by.told; is = by.is; first = tt }

pub over-more : (script : Script) (rows : List Row) (before tells : List Row → Type 0) (r next : Run) → (going : GoingOver script rows before r) → is_done script r ≡ false
    → RoundOver script (hosts_of rows) tells going.held r next → GoingOver script rows tells next
over-more script rows before tells r next going not_yet by = record {
  earlier = suc going.earlier;
  held = by.later;
  told = by.told;
  is = by.is ∙ ap (round_over script (rules_of script (hosts_of rows))) going.is;
  first = (ap (is_done script) (sym (over_run (record { run = r; held = going.held }) (rounds_over script rows (suc going.earlier)) going.is)) ∙ not_yet, going.first);
}

pub over-ends : (script : Script) (rows : List Row) (before tells : List Row → Type 0) (r end : Run) (held : List Row) → (going : GoingOver script rows before r)
    → is_done script r ≡ true → tells held → record { run = end; held = held } ≡ flushed_over true (record { run = r; held = going.held })
    → EndedOver script rows tells end
over-ends script rows before tells r end held going done told is = record {
  held = held;
  told = told;
  ends = record {
    earlier = going.earlier;
    is = is ∙ ap (flushed_over true) going.is;
    done = ap (is_done script) (sym (over_run (record { run = r; held = going.held }) (rounds_over script rows (suc going.earlier)) going.is)) ∙ done;
    first = going.first;
  };
}

-- ---- a round of its parts

pub round_of : (script : Script) (hosts : List (List ℕ)) (old t u new : Run) → t ≡ tried_first script (length script.actors) old
    → LoadedBy (rules_of script hosts) script.start t u → FlushedBy false u new → RoundBy script hosts old new
round_of script hosts old t u new tries load flush = record {
  service = record { gives = load.gives; commits = flush.commits };
  fits = load.fits;
  is =
      flush.is
      ∙ (ap (flushed false flush.commits) load.is
      ∙ ap (λ m. flushed false flush.commits (loaded script.start load.gives m)) tries);
}

-- a round of its parts over a keeper that holds rows
pub round_over_of : (script : Script) (hosts : List (List ℕ)) (tells : List Row → Type 0) (held : List Row) (old t u new : Run)
    → t ≡ tried_first script (length script.actors) old → u ≡ loaded script.start (gives_of (rules_of script hosts) held) t
    → new ≡ flushed false true u → tells (held_where (is_due false u) u held) → RoundOver script hosts tells held old new
round_over_of script hosts tells held old t u new tries load flush told =
    let there : u ≡ loaded script.start (gives_of (rules_of script hosts) held) (tried_first script (length script.actors) old) =
    load ∙ ap (loaded script.start (gives_of (rules_of script hosts) held)) tries in
    record {
      later = held_where (is_due false u) u held;
      told = told;
      is =
          ap (λ (r : Run). record { run = r; held = held_where (is_due false u) u held }) flush
          ∙ ap (λ (r : Run). flushed_over false (record { run = r; held = held })) there;
    }

-- ---- the same, over hosts that are those of rows

pub over-first-at : (script : Script) (hosts : List (List ℕ)) (rows : List Row) (tells : List Row → Type 0) (r : Run) → hosts ≡ hosts_of rows
    → RoundOver script hosts tells rows (rounds script hosts []) r → GoingOver script rows tells r
over-first-at script hosts rows tells r e by =
    over-first script rows tells r (subst (λ h. RoundOver script h tells rows (rounds script h []) r) e by)

pub over-more-at : (script : Script) (hosts : List (List ℕ)) (rows : List Row) (before tells : List Row → Type 0) (r next : Run) → hosts ≡ hosts_of rows
    → (going : GoingOver script rows before r) → is_done script r ≡ false → RoundOver script hosts tells going.held r next → GoingOver script rows tells next
over-more-at script hosts rows before tells r next e going not_yet by =
    over-more script rows before tells r next going not_yet (subst (λ h. RoundOver script h tells going.held r next) e by)

-- the last commit ends it
pub over-ends-at : (script : Script) (rows : List Row) (before tells : List Row → Type 0) (r end : Run) → (going : GoingOver script rows before r)
    → is_done script r ≡ true → tells (held_where (is_due true r) r going.held) → end ≡ flushed true true r → EndedOver script rows tells end
over-ends-at script rows before tells r end going done told is =
    let held = held_where (is_due true r) r going.held in
    over-ends script rows before tells r end held going done told (ap (λ (t : Run). record { run = t; held = held }) is)
