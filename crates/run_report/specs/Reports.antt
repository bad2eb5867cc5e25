-- The report of a run as JSON, and its text. This jar's own rule: docs/DEFINITIONS.md.
use Rattle.std.specs.Prelude.{ℕ, List, [], ◌∷◌, ◌++◌, codes}
use Rattle.serde_json.specs.Data.{Data, string, object, no_members, member}
use Rattle.serde_json.specs.Written.{compact_text}
use Rattle.jar_types.specs.declared.entry.Entry.{Entry}
use Rattle.run_report.specs.declared.item.Item.{Item}
use Rattle.run_report.specs.Values.{list_data}
use Rattle.run_report.specs.Entries.{entries_data}
use Rattle.run_report.specs.Items.{item_lists_data}

-- hosts
abbrev pub hosts_data : List (List ℕ) → Data
hosts_data hosts = list_data string hosts

-- a report: the items of each actor, the hosts that had stored cookies at the start, and the journal
abbrev pub report_data : List (List ℕ) → List (List Item) → List Entry → Data
report_data hosts items journal =
    object
    (member (codes "actors") (item_lists_data items)
    (member (codes "hosts") (hosts_data hosts)
    (member (codes "journal") (entries_data journal)
    no_members)))

-- the text of a report, which a newline ends
abbrev pub report_text : List (List ℕ) → List (List Item) → List Entry → List ℕ
report_text hosts items journal = compact_text (report_data hosts items journal) ++ (10 ∷ [])
