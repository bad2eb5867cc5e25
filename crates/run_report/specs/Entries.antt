-- Entries of the journal as JSON. This jar's own rule: docs/DEFINITIONS.md.
use Rattle.std.specs.Prelude.{List, codes}
use Rattle.serde_json.specs.Data.{Data, object, no_members, member}
use Rattle.jar_types.specs.declared.entry.Entry.{Entry}
use Rattle.jar_types.specs.declared.entry.Entry.TheVariants.{Call, Jar}
use Rattle.run_report.specs.Values.{count_data, list_data}
use Rattle.run_report.specs.Ops.{op_data}
use Rattle.run_report.specs.Owns.{own_data}
use Rattle.run_report.specs.Replies.{reply_data}

-- an entry: a caller's op with its reply, or one of the jar's own
abbrev pub entry_data : Entry → Data
entry_data (Call caller now op reply) =
    object
    (member (codes "by") (count_data caller)
    (member (codes "now") (count_data now)
    (member (codes "op") (op_data op)
    (member (codes "reply") (reply_data reply)
    no_members))))
entry_data (Jar own) = own_data own

-- a journal
abbrev pub entries_data : List Entry → Data
entries_data entries = list_data entry_data entries
