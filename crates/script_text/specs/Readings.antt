-- What a value says as a script: what each member says, and what holds where one is absent. A value
-- of the form of a script has what is read. This jar's own rule: docs/DEFINITIONS.md; which methods
-- are safe: the 6265bis draft, section 5.2.
use Rattle.std.specs.Prelude.{ℕ, ◌-◌, ◌^◌, List, map, min, Bool, true, ◌||◌, bytes_eq, codes, Option, None, Some, is_some, option_map, unwrap_or, if◌then◌else◌}
use Rattle.serde_json.specs.Data.{Data}
use Rattle.serde_json.specs.Find.{get, as_null}
use Rattle.script_text.specs.declared.script.TheConstants.{MOST_LIMIT}
use Rattle.script_text.specs.declared.word.Word.{Word}
use Rattle.script_text.specs.declared.word.Word.TheVariants as word
use Rattle.script_text.specs.Drafts.{DraftSite, own_url, no_site, site_at, site_url, DraftAsk, DraftWhat, set, get_all, delete, all, clear, listen, changes, unlisten, post, hear, read, write, DraftStep, DraftView, DraftActor, Draft}
use Rattle.script_text.specs.Members.{text_of, text_if, text_at, number_if, number_at, moment_at, flag_at, list_at}

-- ---- what a step says of itself

-- a site for cookies that is there: null says that there is none
abbrev pub said_site : Data → DraftSite
said_site d = if is_some (as_null d) then no_site else site_at (text_of d)

-- the site for cookies: the step's own URL where it is absent
abbrev pub site_from : Option Data → DraftSite
site_from member = unwrap_or (option_map said_site member) own_url

abbrev pub site_of : Data → DraftSite
site_of d = site_from (get (codes "site") d)

-- the URL that the site is, where it is one
abbrev pub site_text : Data → Option (List ℕ)
site_text d = site_url (site_of d)

-- a method is safe: it is one of these four, letter by letter
abbrev pub is_safe : List ℕ → Bool
is_safe method =
    bytes_eq method (codes "GET") || bytes_eq method (codes "HEAD")
    || bytes_eq method (codes "OPTIONS") || bytes_eq method (codes "TRACE")

-- whether the method is safe: it is GET where it is absent
abbrev pub safety_of : Data → Bool
safety_of d = unwrap_or (option_map is_safe (text_if (codes "method") d)) true

abbrev pub ask_of : Data → DraftAsk
ask_of d = record {
  url = text_at (codes "url") d;
  site = site_of d;
  initiator = text_if (codes "initiator") d;
  safe_method = safety_of d;
  navigation = flag_at (codes "navigation") d;
}

-- what a listen says of itself, where it has a URL
abbrev pub listen_ask : Data → Option DraftAsk
listen_ask d = if is_some (get (codes "url") d) then Some (ask_of d) else None

-- ---- steps

-- the word of a step; one that is none of these reads as a post
abbrev pub word_of : List ℕ → Word
word_of text =
    if bytes_eq text (codes "set") then word.Set
    else (if bytes_eq text (codes "get") then word.Get
    else (if bytes_eq text (codes "delete") then word.Delete
    else (if bytes_eq text (codes "all") then word.All
    else (if bytes_eq text (codes "clear") then word.Clear
    else (if bytes_eq text (codes "listen") then word.Listen
    else (if bytes_eq text (codes "changes") then word.Changes
    else (if bytes_eq text (codes "unlisten") then word.Unlisten
    else (if bytes_eq text (codes "hear") then word.Hear
    else (if bytes_eq text (codes "read") then word.Read
    else (if bytes_eq text (codes "write") then word.Write
    else word.Post))))))))))

-- the number of an actor, of 32 bits
abbrev pub actor_number : Data → ℕ
actor_number d = min (number_at (codes "actor") d) (2 ^ 32 - 1)

-- what a step does, by its word
abbrev pub what_by : Word → Data → DraftWhat
what_by word.Set d = set (ask_of d) (text_at (codes "line") d)
what_by word.Get d = get_all (ask_of d)
what_by word.Delete d =
    delete (text_at (codes "host") d) (text_at (codes "name") d) (text_at (codes "path") d)
what_by word.All d = all
what_by word.Clear d = clear
what_by word.Listen d = listen (listen_ask d) (text_if (codes "name") d)
what_by word.Changes d = changes (number_at (codes "listener") d)
what_by word.Unlisten d = unlisten (number_at (codes "listener") d)
what_by word.Post d = post
what_by word.Hear d = hear (actor_number d) (number_at (codes "n") d)
what_by word.Read d = read (text_if (codes "url") d)
what_by word.Write d = write (text_at (codes "line") d) (text_if (codes "url") d)

abbrev pub what_of : Data → DraftWhat
what_of d = what_by (word_of (text_at (codes "op") d)) d

abbrev pub step_of : Data → DraftStep
step_of d = record { now = moment_at (codes "now") d; what = what_of d }

-- ---- actors and scripts

-- an actor is a renderer
abbrev pub is_renderer : Data → Bool
is_renderer d = bytes_eq (text_at (codes "kind") d) (codes "renderer")

abbrev pub view_of : Data → DraftView
view_of d = record { document = text_at (codes "document") d; site = site_text d }

abbrev pub sees_of : Data → Option DraftView
sees_of d = if is_renderer d then Some (view_of d) else None

abbrev pub actor_of : Data → DraftActor
actor_of d = record {
  sees = sees_of d;
  steps = map step_of (list_at (codes "steps") d);
}

abbrev pub draft_of : Data → Draft
draft_of d = record {
  suffixes = text_at (codes "suffixes") d;
  start = moment_at (codes "start") d;
  limit = unwrap_or (number_if (codes "limit") d) MOST_LIMIT;
  actors = map actor_of (list_at (codes "actors") d);
}
