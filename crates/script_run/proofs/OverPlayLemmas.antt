-- What a script's run over rows came to, by how it ended.
use Rattle.std.proofs.Common.{◌≡◌, List, refl}
use Rattle.jar_types.specs.declared.entry.Entry.{Entry}
use Rattle.jar_types.specs.declared.row.Row.{Row}
use Rattle.jar_types.specs.RowChanges.{RowsRise}
use Rattle.run_report.specs.declared.item.Item.{Item}
use Rattle.script_text.specs.declared.script.Script.{Script}
use Rattle.script_text.specs.Admitted.{IsAdmitted}
use Rattle.script_run.specs.Rounds.{IsHistoryOver}
use Rattle.script_run.specs.Runs.{Run}
use Rattle.script_run.specs.Services.{EndedOver, PlayedOver}
use Rattle.script_run.specs.StoredRuns.{IsTimed}
use Rattle.script_run.proofs.StoredRunLemmas.{history_is_eager, history_is_kept}

pub played_over : (script : Script) (rows : List Row) (tells : List Row → Type 0) (run : Run) (items : List (List Item)) (journal : List Entry)
    → IsAdmitted script → IsTimed script → RowsRise rows → items ≡ run.items → journal ≡ run.journal → EndedOver script rows tells run
    → PlayedOver script rows tells items journal
played_over script rows tells run items journal admitted timed rises same same' ended =
    let history : IsHistoryOver script rows items journal ended.held =
    record { end = record { run = run; held = ended.held }; ends = ended.ends; items_are = same; journal_is = same'; held_are = refl } in
    record {
      held = ended.held;
      told = ended.told;
      history = history;
      kept = history_is_kept script rows items journal ended.held admitted timed rises history;
      eager = history_is_eager script rows items journal ended.held admitted rises history;
    }
