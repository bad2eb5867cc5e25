use Rattle.std.proofs.Common.{◌≡◌, ◌++◌, drop, map}
use Rattle.json.specs.Tree.{items_tokens}
use Rattle.serde_json.specs.View.{items_of}
use Rattle.serde_json.specs.Written.{items_outline}
use Rattle.run_report.specs.Entries.{entry_data, entries_data}
use Rattle.run_report.specs.Tokens.{data_tokens}
use Rattle.run_report.proofs.entry.write_entries.Given as goal

abbrev pub invariant-loop-entry : goal.invariant-loop-entry
invariant-loop-entry l =
    (l.out.before ≡ l.fn.out.before)
    × (l.out.tokens ++ items_tokens (items_outline (items_of (map entry_data (drop l.entry-index l.entries))))
    ≡ l.fn.out.tokens ++ data_tokens (entries_data l.entries))
