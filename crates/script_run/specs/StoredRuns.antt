-- A script's run over a keeper that holds rows and never fails: its loads list just what is stored,
-- what the keeper holds at its end is just what is to be stored, and that cookies are loaded a key
-- at a time changed no answer. This jar's own rule: docs/DEFINITIONS.md.
use Rattle.std.specs.Prelude.{◌≡◌, ◌≤◌, List}
use Rattle.std.specs.List.{AllByRecursion}
use Rattle.jar_values.specs.declared.moment.TheConstants.{MAX_MOMENT}
use Rattle.jar_types.specs.declared.row.Row.{Row}
use Rattle.jar_types.specs.RowChanges.{RowsRise}
use Rattle.jar_types.specs.Stored.{IsHonest, hosts_of, sound_rows, stored_rows}
use Rattle.eager_law.specs.Laws.{IsAsEager}
use Rattle.script_text.specs.declared.actor.Actor.{Actor}
use Rattle.script_text.specs.declared.script.Script.{Script}
use Rattle.script_text.specs.declared.step.Step.{Step}
use Rattle.script_text.specs.Admitted.{IsAdmitted}
use Rattle.script_run.specs.Rounds.{EndsOver, Over, rules_of}

-- ---- moments

-- the moments of these steps are moments
abbrev pub AreTimed : List Step → Type 0
AreTimed steps = AllByRecursion (λ (step : Step). step.now ≤ MAX_MOMENT) steps

-- the moments of a script are moments: its start, and those of its actors' steps
pub record IsTimed (script : Script) : Type 0 where
  pub start : script.start ≤ MAX_MOMENT
  pub steps : AllByRecursion (λ (actor : Actor). AreTimed actor.steps) script.actors

-- ---- laws

-- each load of the run lists just the cookies of its key that the rows stand for, though the keeper
-- held others by then
abbrev pub StoredRunsAreHonest : Type 0
StoredRunsAreHonest =
    (script : Script) (rows : List Row) (end : Over) → IsAdmitted script → RowsRise rows → EndsOver script rows end
    → IsHonest (rules_of script (hosts_of rows)) rows end.run.journal

-- at the end the keeper holds, among its sound rows, just those that are to be stored after the
-- journal
abbrev pub StoredRunsAreKept : Type 0
StoredRunsAreKept =
    (script : Script) (rows : List Row) (end : Over) → IsAdmitted script → IsTimed script → RowsRise rows → EndsOver script rows end
    → sound_rows end.held ≡ stored_rows (rules_of script (hosts_of rows)) rows end.run.journal

-- the journal is that of a jar in which all cookies of the rows are loaded from the start
abbrev pub StoredRunsAreEager : Type 0
StoredRunsAreEager =
    (script : Script) (rows : List Row) (end : Over) → IsAdmitted script → RowsRise rows → EndsOver script rows end
    → IsAsEager (rules_of script (hosts_of rows)) rows end.run.journal
