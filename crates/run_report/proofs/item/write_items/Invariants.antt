use Rattle.std.proofs.Common.{◌≡◌, ◌++◌, drop, map}
use Rattle.json.specs.Tree.{items_tokens}
use Rattle.serde_json.specs.View.{items_of}
use Rattle.serde_json.specs.Written.{items_outline}
use Rattle.run_report.specs.Items.{item_data, items_data}
use Rattle.run_report.specs.Tokens.{data_tokens}
use Rattle.run_report.proofs.item.write_items.Given as goal

abbrev pub invariant-loop-item : goal.invariant-loop-item
invariant-loop-item l =
    (l.out.before ≡ l.fn.out.before)
    × (l.out.tokens ++ items_tokens (items_outline (items_of (map item_data (drop l.item-index l.items))))
    ≡ l.fn.out.tokens ++ data_tokens (items_data l.items))
