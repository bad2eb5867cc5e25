-- Items as JSON: what a report says of each step. This jar's own rule: docs/DEFINITIONS.md.
use Rattle.std.specs.Prelude.{ℕ, List, codes}
use Rattle.serde_json.specs.Data.{Data, string, object, no_members, member}
use Rattle.jar_types.specs.declared.ask_cause.AskCause.{AskCause}
use Rattle.jar_types.specs.declared.ask_cause.AskCause.TheVariants.{Other, NoCell, Cold, Late, Moved}
use Rattle.run_report.specs.declared.item.Item.{Item}
use Rattle.run_report.specs.declared.item.Item.TheVariants.{At, Asked, Reused, Refused}
use Rattle.run_report.specs.Values.{count_data, list_data, sole}
use Rattle.run_report.specs.RefusalNames.{refusal_word}

-- a read that asked, and of whose cause there is no more to say than its word
abbrev pub cause_data : ℕ → List ℕ → Data
cause_data place cause =
    object
    (member (codes "at") (count_data place)
    (member (codes "cause") (string cause)
    no_members))

-- a read that asked: the place of its entry, and its cause
abbrev pub asked_data : ℕ → AskCause → Data
asked_data place Other = cause_data place (codes "other")
asked_data place NoCell = cause_data place (codes "no_cell")
asked_data place Cold = cause_data place (codes "cold")
asked_data place (Late until) =
    object
    (member (codes "at") (count_data place)
    (member (codes "cause") (string (codes "late"))
    (member (codes "until") (count_data until)
    no_members)))
asked_data place (Moved kept found) =
    object
    (member (codes "at") (count_data place)
    (member (codes "cause") (string (codes "moved"))
    (member (codes "found") (count_data found)
    (member (codes "kept") (count_data kept)
    no_members))))

-- an item: the place of a step's entry in the journal, where a read asked with its cause; the text
-- that a read used again; or the name of a refusal
abbrev pub item_data : Item → Data
item_data (At place) = sole (codes "at") (count_data place)
item_data (Asked place cause) = asked_data place cause
item_data (Reused text) = sole (codes "reused") (string text)
item_data (Refused name) = sole (codes "refused") (string (refusal_word name))

-- the items of one actor
abbrev pub items_data : List Item → Data
items_data items = list_data item_data items

-- the items of all actors, a list for each
abbrev pub item_lists_data : List (List Item) → Data
item_lists_data lists = list_data items_data lists
