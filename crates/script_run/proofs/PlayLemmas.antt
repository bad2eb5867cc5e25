-- The players of a script's actors over a jar that was opened for it: who plays at its beginning,
-- and the passes of who plays.
use Rattle.std.proofs.Common.{◌≡◌, ◌≤◌, ◌+◌, ℕ, zero, suc, List, [], ◌∷◌, ◌++◌, Bool, length, map, refl, ap, sym, ◌∙◌, arith, subst, length-append}
use Rattle.std.specs.Prelude.{Result, Ok, Err, IfOk, replicate}
use Rattle.std.specs.List.{AllByRecursion}
use Rattle.atomic_table.specs.Seated.{TableId}
use Rattle.jar_types.specs.declared.row.RowChange.{RowChange}
use Rattle.jar_types.specs.Journals.{Rules}
use Rattle.version_cells.specs.Standing.{PassStanding, new_pass_standing, new_passes}
use Rattle.locked_jar.specs.LockedJars.{LockedJar, journal_of}
use Rattle.script_text.specs.declared.script.Script.{Script}
use Rattle.shared_jar.specs.Faults.{FaultsAre, RoseTimes, faults_in}
use Rattle.shared_jar.specs.Together.{IsCaller}
use Rattle.store_vault.specs.declared.stored.Stored.{Stored}
use Rattle.store_vault.specs.Loading as vault
use Rattle.script_run.specs.Players.{ArePassesFrom, ArePlaying, BeginsPlay, IsPassOf, PlayersStanding, sight, view_of}
use Rattle.script_run.specs.Rounds.{rules_of}

-- what follows of a result that is Ok from three that are said of it
pub if_ok_three : {T E : Type 0} {P Q R S : T → Type 0} → (r : Result T E) → ((t : T) → P t → Q t → R t → S t) → IfOk r P → IfOk r Q → IfOk r R → IfOk r S
if_ok_three (Ok value) f p q r = f value p q r
if_ok_three (Err error) f p q r = p

-- ---- new passes

length-new : (table : TableId) (n : ℕ) → length (new_passes table n) ≡ n
length-new table zero = refl
length-new table (suc n) =
    let so_far = length-new table n in
    length-append (new_passes table n) (new_pass_standing table n ∷ []) ∙ omega (arith, so_far)

many-of : {A : Type 0} → (n : ℕ) (x : A) → length (replicate n x) ≡ n
many-of zero x = refl
many-of (suc n) x = ap suc (many-of n x)

module _ (script : Script) (hosts : List (List ℕ)) (table : TableId) where
  -- one more at the end
  passes_push : (a : ℕ) (ps : List PassStanding) (q : PassStanding) → ArePassesFrom script hosts table a ps
      → IsPassOf script hosts table (a + length ps) q → ArePassesFrom script hosts table a (ps ++ q ∷ [])
  passes_push a [] q so_far is =
      let same : a + 0 ≡ a = omega arith in (subst (λ n. IsPassOf script hosts table n q) same is, tt)
  passes_push a (p ∷ ps) q so_far is =
      let same : a + length (p ∷ ps) ≡ suc a + length ps = omega arith in
      (so_far.0, passes_push (suc a) ps q so_far.1 (subst (λ n. IsPassOf script hosts table n q) same is))

  new_is : (n : ℕ) → suc n ≤ length script.actors → IsPassOf script hosts table n (new_pass_standing table n)
  new_is n within = record {
    caller = record { ready = ((refl, refl), refl); among = omega (arith, within) };
    number = refl;
  }

  -- the new passes are those of the numbers from 0 on
  new_are_from : (n : ℕ) → n ≤ length script.actors → ArePassesFrom script hosts table 0 (new_passes table n)
  new_are_from zero within = tt
  new_are_from (suc n) within =
      let many = length-new table n in
      let at : n ≡ 0 + length (new_passes table n) = omega (arith, many) in
      passes_push 0 (new_passes table n) (new_pass_standing table n) (new_are_from n (omega (arith, within)))
      (subst (λ k. IsPassOf script hosts table k (new_pass_standing table n)) at (new_is n within))

  -- passes of numbers from one on are those of callers
  callers_from : (a : ℕ) (ps : List PassStanding) → ArePassesFrom script hosts table a ps → AllByRecursion (IsCaller (rules_of script hosts) table) ps
  callers_from a [] are = tt
  callers_from a (p ∷ ps) are = (are.0.caller, callers_from (suc a) ps are.1)

-- ---- a jar that was opened for a script

module _ (script : Script) (stored : Stored) (callers : ℕ) (table : TableId) (j : LockedJar) (kept : List RowChange) (passes : List PassStanding)
    (begins : BeginsPlay script stored callers table j kept passes) where
  -- its players are those of the script
  pub playing_first : (p : PlayersStanding) → p.passes ≡ passes → p.items ≡ replicate (length script.actors) []
      → map view_of p.managers ≡ map sight script.actors → ArePlaying script stored callers j.limit table p
  playing_first p same items views =
      let are = same ∙ begins.passes_are in record {
        rules_are = begins.rules_are;
        many_passes = ap length are ∙ length-new table (length script.actors);
        many_items = ap length items ∙ many-of (length script.actors) [];
        views = views;
        passes = subst (ArePassesFrom script stored.hosts table 0) (sym are) (new_are_from script stored.hosts table (length script.actors) (omega arith));
      }

  -- the passes are those of callers
  pub begins_callers : (ps : List PassStanding) → ps ≡ passes → AllByRecursion (IsCaller (vault.rules_of stored callers j.limit) table) ps
  begins_callers ps same =
      let are = same ∙ begins.passes_are in
      subst (AllByRecursion (IsCaller (vault.rules_of stored callers j.limit) table)) (sym are)
      (subst (λ (r : Rules). AllByRecursion (IsCaller r table) (new_passes table (length script.actors))) (sym begins.rules_are)
      (callers_from script stored.hosts table 0 (new_passes table (length script.actors))
      (new_are_from script stored.hosts table (length script.actors) (omega arith))))

  -- its keeper has failed just as often as the journal tells
  pub no_faults : (count : ℕ) (starved : Bool) → FaultsAre count (journal_of j.seen) count starved
  no_faults count starved fed =
      subst (λ (i : LockedJar). RoseTimes (faults_in (journal_of i.seen)) count count) (sym begins.jar_is) refl

-- ---- behind the rounds

-- the passes of who plays are those of callers, also of a jar that stayed the same in these
pub playing_callers : (script : Script) (stored stored' : Stored) (callers callers' limit limit' : ℕ) (table table' : TableId) (p : PlayersStanding)
    → ArePlaying script stored callers limit table p → stored' ≡ stored → table' ≡ table → callers' ≡ callers → limit' ≡ limit
    → AllByRecursion (IsCaller (vault.rules_of stored' callers' limit') table') p.passes
playing_callers script stored stored' callers callers' limit limit' table table' p are s t c l =
    let here : AllByRecursion (IsCaller (vault.rules_of stored callers limit) table) p.passes =
    subst (λ (r : Rules). AllByRecursion (IsCaller r table) p.passes) (sym are.rules_are) (callers_from script stored.hosts table 0 p.passes are.passes) in
    subst (λ x. AllByRecursion (IsCaller (vault.rules_of x callers' limit') table') p.passes) (sym s)
    (subst (λ x. AllByRecursion (IsCaller (vault.rules_of stored callers' limit') x) p.passes) (sym t)
    (subst (λ x. AllByRecursion (IsCaller (vault.rules_of stored x limit') table) p.passes) (sym c)
    (subst (λ x. AllByRecursion (IsCaller (vault.rules_of stored callers x) table) p.passes) (sym l) here)))
