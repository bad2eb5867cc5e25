-- Entries of the jar's own as JSON, each with its kind. This jar's own rule: docs/DEFINITIONS.md.
use Rattle.std.specs.Prelude.{ℕ, List, codes}
use Rattle.serde_json.specs.Data.{Data, string, object, no_members, member}
use Rattle.jar_types.specs.declared.entry.Own.{Own}
use Rattle.jar_types.specs.declared.entry.Own.TheVariants.{Want, WantAll, Begun, Loaded, Lost, Whole, Taken, Acked, CommitLost}
use Rattle.run_report.specs.Cookies.{cookies_data}
use Rattle.run_report.specs.Values.{count_data, sole}

-- an entry that has nothing but its kind
abbrev pub kind_data : List ℕ → Data
kind_data kind = sole (codes "own") (string kind)

-- an entry of a kind on a key
abbrev pub keyed_data : List ℕ → List ℕ → Data
keyed_data key kind =
    object
    (member (codes "key") (string key)
    (member (codes "own") (string kind)
    no_members))

-- an entry of a kind on the batch that was taken at a place
abbrev pub placed_data : List ℕ → ℕ → Data
placed_data kind place =
    object
    (member (codes "own") (string kind)
    (member (codes "place") (count_data place)
    no_members))

-- an entry of the jar's own
abbrev pub own_data : Own → Data
own_data (Want key) = keyed_data key (codes "want")
own_data WantAll = kind_data (codes "want_all")
own_data (Begun key) = keyed_data key (codes "begun")
own_data (Loaded key cookies) =
    object
    (member (codes "cookies") (cookies_data cookies)
    (member (codes "key") (string key)
    (member (codes "own") (string (codes "loaded"))
    no_members)))
own_data (Lost key) = keyed_data key (codes "lost")
own_data (Whole now) =
    object
    (member (codes "now") (count_data now)
    (member (codes "own") (string (codes "whole"))
    no_members))
own_data Taken = kind_data (codes "taken")
own_data (Acked place) = placed_data (codes "acked") place
own_data (CommitLost place) = placed_data (codes "commit_lost") place
