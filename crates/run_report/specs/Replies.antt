-- Replies as JSON: a word, true or false, or an object. This jar's own rule: docs/DEFINITIONS.md.
use Rattle.std.specs.Prelude.{codes}
use Rattle.serde_json.specs.Data.{Data, boolean, string, object, no_members, member}
use Rattle.jar_types.specs.declared.op.Reply.{Reply}
use Rattle.jar_types.specs.declared.op.Reply.TheVariants.{Cell, Stored, Replaced, Removed, NothingThere, OverwriteSecure, OverwriteHttpOnly}
use Rattle.jar_types.specs.declared.op.Reply.TheVariants.{Cookies, Script, Flag, Count, Listener, Changes, NoListener, Posted, Heard, StoreFault}
use Rattle.run_report.specs.Values.{count_data, count_or_null, sole}
use Rattle.run_report.specs.Changes.{changes_data}
use Rattle.run_report.specs.Cookies.{cookies_data}

-- a reply
abbrev pub reply_data : Reply → Data
reply_data (Cell cell) = sole (codes "cell") (count_or_null cell)
reply_data Stored = string (codes "stored")
reply_data Replaced = string (codes "replaced")
reply_data Removed = string (codes "removed")
reply_data NothingThere = string (codes "nothing_there")
reply_data OverwriteSecure = string (codes "overwrite_secure")
reply_data OverwriteHttpOnly = string (codes "overwrite_http_only")
reply_data (Cookies cookies) = sole (codes "cookies") (cookies_data cookies)
reply_data (Script text version until) =
    object
    (member (codes "text") (string text)
    (member (codes "until") (count_data until)
    (member (codes "version") (count_or_null version)
    no_members)))
reply_data (Flag flag) = boolean flag
reply_data (Count count) = sole (codes "count") (count_data count)
reply_data (Listener number) = sole (codes "listener") (count_data number)
reply_data (Changes changes) = sole (codes "changes") (changes_data changes)
reply_data NoListener = string (codes "no_listener")
reply_data (Posted count) = sole (codes "post") (count_data count)
reply_data Heard = string (codes "heard")
reply_data StoreFault = string (codes "store_fault")
