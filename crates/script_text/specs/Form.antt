-- The form of a script: which members its objects have, and of which form each is. This jar's own
-- rule: docs/DEFINITIONS.md.
use Rattle.std.specs.Prelude.{List, [], ◌∷◌, ◌-◌, ◌^◌, codes}
use Rattle.json_form.specs.Forms.{Form}
use Rattle.json_form.specs.Leaves.{text, flag, whole, moment, below_length, up_to_count}
use Rattle.json_form.specs.Lists.{measured, counting}
use Rattle.json_form.specs.Objects.{Member, must, may, object}
use Rattle.json_form.specs.Alternatives.{or_null, if_has, tagged, Word, on}
use Rattle.script_text.specs.declared.script.TheConstants.{MOST_LIMIT}

-- ---- members

-- each step has its word and its moment
abbrev pub step_members : List Member → List Member
step_members more = must (codes "op") text ∷ must (codes "now") moment ∷ more

abbrev pub step : List Member → Form
step more = object (step_members more)

-- what a step may say of itself beside its URL
abbrev pub ask : List Member
ask =
    may (codes "site") (or_null text) ∷ may (codes "initiator") text ∷ may (codes "method") text
    ∷ may (codes "navigation") flag ∷ []

abbrev pub url : Member
url = must (codes "url") text

abbrev pub own_url : Member
own_url = may (codes "url") text

abbrev pub line : Member
line = must (codes "line") text

abbrev pub name : Member
name = may (codes "name") text

-- ---- steps

-- a step that says no more
abbrev pub alone : Form
alone = step []

-- a step on one of the actor's listeners, counted from 1
abbrev pub listener_members : List Member
listener_members = step_members (must (codes "listener") up_to_count ∷ [])

abbrev pub of_listener : Form
of_listener = object listener_members

-- a hear names an actor of the script, and how many posts it waits for
abbrev pub hear_members : List Member
hear_members =
    step_members (must (codes "actor") below_length ∷ must (codes "n") (whole 1 (2 ^ 64 - 1)) ∷ [])

abbrev pub hear : Form
hear = object hear_members

abbrev pub delete : Form
delete = step (must (codes "host") text ∷ must (codes "name") text ∷ must (codes "path") text ∷ [])

-- a fetch that listens says more where it has a URL
abbrev pub fetch_listen : Form
fetch_listen = if_has (codes "url") (step (url ∷ name ∷ ask)) alone

-- the words of a fetch's steps
abbrev pub fetch_words : List Word
fetch_words =
    on (codes "set") (step (url ∷ line ∷ ask)) ∷ on (codes "get") (step (url ∷ ask))
    ∷ on (codes "delete") delete ∷ on (codes "all") alone ∷ on (codes "clear") alone
    ∷ on (codes "listen") fetch_listen ∷ on (codes "changes") of_listener
    ∷ on (codes "unlisten") of_listener ∷ on (codes "post") alone ∷ on (codes "hear") hear ∷ []

-- the words of a renderer's steps
abbrev pub renderer_words : List Word
renderer_words =
    on (codes "listen") (step (name ∷ [])) ∷ on (codes "changes") of_listener
    ∷ on (codes "unlisten") of_listener ∷ on (codes "post") alone ∷ on (codes "hear") hear
    ∷ on (codes "read") (step (own_url ∷ [])) ∷ on (codes "write") (step (line ∷ own_url ∷ [])) ∷ []

-- steps go by their words, and know how many of the actor's listens stand before them
abbrev pub steps : List Word → Member
steps words =
    must (codes "steps") (counting (codes "op") (codes "listen") (tagged (codes "op") words))

-- ---- actors and scripts

abbrev pub kind : Member
kind = must (codes "kind") text

abbrev pub fetch_members : List Member
fetch_members = kind ∷ steps fetch_words ∷ []

abbrev pub renderer_members : List Member
renderer_members =
    kind ∷ must (codes "document") text ∷ must (codes "site") (or_null text)
    ∷ steps renderer_words ∷ []

-- the words of actors
abbrev pub actor_words : List Word
actor_words =
    on (codes "fetch") (object fetch_members) ∷ on (codes "renderer") (object renderer_members) ∷ []

abbrev pub actor : Form
actor = tagged (codes "kind") actor_words

abbrev pub script_members : List Member
script_members =
    must (codes "actors") (measured actor) ∷ may (codes "limit") (whole 1 MOST_LIMIT)
    ∷ may (codes "start") moment ∷ may (codes "suffixes") text ∷ []

abbrev pub script : Form
script = object script_members
