use Rattle.std.proofs.Common.{◌≡◌, ◌++◌, drop, map}
use Rattle.json.specs.Tree.{items_tokens}
use Rattle.serde_json.specs.View.{items_of}
use Rattle.serde_json.specs.Written.{items_outline}
use Rattle.run_report.specs.Changes.{change_data, changes_data}
use Rattle.run_report.specs.Tokens.{data_tokens}
use Rattle.run_report.proofs.change.write_changes.Given as goal

abbrev pub invariant-loop-change : goal.invariant-loop-change
invariant-loop-change l =
    (l.out.before ≡ l.fn.out.before)
    × (l.out.tokens ++ items_tokens (items_outline (items_of (map change_data (drop l.change-index l.changes))))
    ≡ l.fn.out.tokens ++ data_tokens (changes_data l.changes))
