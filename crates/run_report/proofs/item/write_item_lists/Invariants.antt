use Rattle.std.proofs.Common.{◌≡◌, ◌++◌, drop, map}
use Rattle.json.specs.Tree.{items_tokens}
use Rattle.serde_json.specs.View.{items_of}
use Rattle.serde_json.specs.Written.{items_outline}
use Rattle.run_report.specs.Items.{items_data, item_lists_data}
use Rattle.run_report.specs.Tokens.{data_tokens}
use Rattle.run_report.proofs.item.write_item_lists.Given as goal

abbrev pub invariant-loop-items : goal.invariant-loop-items
invariant-loop-items l =
    (l.out.before ≡ l.fn.out.before)
    × (l.out.tokens ++ items_tokens (items_outline (items_of (map items_data (drop l.items-index l.lists))))
    ≡ l.fn.out.tokens ++ data_tokens (item_lists_data l.lists))
