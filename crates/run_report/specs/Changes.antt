-- Changes as JSON, each with its cause. This jar's own rule: docs/DEFINITIONS.md.
use Rattle.std.specs.Prelude.{ℕ, List, codes}
use Rattle.serde_json.specs.Data.{Data, string, object, no_members, member}
use Rattle.jar_types.specs.declared.change.Cause.{Cause}
use Rattle.jar_types.specs.declared.change.Cause.TheVariants.{Inserted, Explicit, Overwrite, Expired, Evicted, ExpiredOverwrite}
use Rattle.jar_types.specs.declared.change.Change.{Change}
use Rattle.run_report.specs.Values.{list_data}
use Rattle.run_report.specs.Cookies.{cookie_data}

-- the word of a cause
abbrev pub cause_word : Cause → List ℕ
cause_word Inserted = codes "inserted"
cause_word Explicit = codes "explicit"
cause_word Overwrite = codes "overwrite"
cause_word Expired = codes "expired"
cause_word Evicted = codes "evicted"
cause_word ExpiredOverwrite = codes "expired_overwrite"

-- a change
abbrev pub change_data : Change → Data
change_data c =
    object
    (member (codes "cause") (string (cause_word c.cause))
    (member (codes "cookie") (cookie_data c.cookie)
    no_members))

-- changes
abbrev pub changes_data : List Change → Data
changes_data changes = list_data change_data changes
