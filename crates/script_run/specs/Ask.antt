-- What a turn asks of the jar, by the script's suffix rules: an op, or nothing where its origin, its
-- line or its cookie is refused. This jar's own rule: docs/DEFINITIONS.md.
use Rattle.std.specs.Prelude.{◌≡◌, ℕ, List, Bool, true, false, Option, None, Some, Result, Ok, Err}
use Rattle.jar_values.specs.Hosts.{undotted}
use Rattle.jar_types.specs.declared.cookie.Cookie.{Cookie}
use Rattle.jar_types.specs.declared.cookie.CookieId.{CookieId}
use Rattle.jar_types.specs.declared.listener.Scope.{Scope}
use Rattle.jar_types.specs.declared.listener.Scope.TheVariants as scope
use Rattle.jar_types.specs.declared.request.Request.{Request}
use Rattle.jar_types.specs.declared.op.Op.{Op}
use Rattle.jar_types.specs.declared.op.Op.TheVariants as op
use Rattle.jar_types.specs.Journals.{Rules, is_well_keyed}
use Rattle.public_suffix.specs.Rule.{SuffixRule}
use Rattle.public_suffix.specs.Suffix.{key_of}
use Rattle.set_cookie_line.specs.declared.line.Line.{Line}
use Rattle.set_cookie_line.specs.declared.line.LineRefusal.{LineRefusal}
use Rattle.set_cookie_line.specs.Line.{read_line}
use Rattle.site_match.specs.declared.fetch.FetchAsk.{FetchAsk}
use Rattle.site_match.specs.declared.place.Place.{Place}
use Rattle.site_match.specs.Contexts.{context_of}
use Rattle.site_match.specs.Schemes.{is_secure}
use Rattle.canonical_cookie.specs.declared.refusal.CookieRefusal.{CookieRefusal}
use Rattle.canonical_cookie.specs.Making.{made}
use Rattle.restricted_manager.specs.declared.write.WriteRefusal.{WriteRefusal}
use Rattle.restricted_manager.specs.declared.write.WriteRefusal.TheVariants as write
use Rattle.restricted_manager.specs.Documents.{asked_place, is_same_origin}
use Rattle.restricted_manager.specs.Managers.{ManagerStanding, new_manager}
use Rattle.restricted_manager.specs.Requests.{bind_of, listen_of, read_of}
use Rattle.restricted_manager.specs.Writes.{write_at}
use Rattle.run_report.specs.declared.refusal_name.RefusalName.TheVariants.{OriginMismatch}
use Rattle.run_report.specs.RefusalNames.{of_line, of_cookie}
use Rattle.script_text.specs.Placed.{View}
use Rattle.script_text.specs.declared.step.What.{What}
use Rattle.script_text.specs.declared.step.What.TheVariants.{Set, Get, Delete, All, Clear, Listen, Changes, Unlisten, Post, Hear, Read, Write}
use Rattle.script_run.specs.declared.ask.Ask.{Ask}
use Rattle.script_run.specs.declared.ask.Ask.TheVariants as ask
use Rattle.script_run.specs.Turns.{Turn, binds, does}

-- the request of a fetch: of its place, by no script, in the context of what the step says of itself
abbrev pub request_of : FetchAsk → Request
request_of fetch = record {
  key = fetch.place.key;
  host = fetch.place.host;
  path = fetch.place.path;
  secure = is_secure fetch.place.scheme;
  script = false;
  context = context_of fetch;
}

-- what a set asks, whose cookie comes to this: to store it, by no script, on a connection that is
-- secure as the place's scheme
abbrev pub ask_of_cookie : FetchAsk → Result Cookie CookieRefusal → Ask
ask_of_cookie fetch (Ok cookie) = ask.Op (op.Set cookie false (is_secure fetch.place.scheme))
ask_of_cookie fetch (Err refusal) = ask.Refused (of_cookie refusal)

-- what a set asks at a moment, whose line reads as this
abbrev pub ask_of_line : List SuffixRule → FetchAsk → ℕ → Result Line LineRefusal → Ask
ask_of_line rules fetch now (Ok line) =
    ask_of_cookie fetch (made rules line fetch.place (context_of fetch) false now)
ask_of_line rules fetch now (Err refusal) = ask.Refused (of_line refusal)

-- the id that a delete is about
abbrev pub id_of_texts : List ℕ → List ℕ → List ℕ → CookieId
id_of_texts host name path = record { host = host; name = name; path = path }

-- which changes a fetch listens to: all, or those of the cookies of its request, or of these those of a
-- name
abbrev pub scope_of : Option FetchAsk → Option (List ℕ) → Scope
scope_of None name = scope.All
scope_of (Some fetch) None = scope.Seen (request_of fetch)
scope_of (Some fetch) (Some name) = scope.Named (request_of fetch) name

-- what a fetch asks at a moment; it has no read and no write
abbrev pub ask_of_fetch : List SuffixRule → ℕ → What → Option Ask
ask_of_fetch rules now (Set fetch line) = Some (ask_of_line rules fetch now (read_line line))
ask_of_fetch rules now (Get fetch) = Some (ask.Op (op.Get (request_of fetch)))
ask_of_fetch rules now (Delete host name path) =
    Some (ask.Op (op.Delete (key_of rules (undotted host)) (id_of_texts host name path)))
ask_of_fetch rules now All = Some (ask.Op op.All)
ask_of_fetch rules now Clear = Some (ask.Op op.Clear)
ask_of_fetch rules now (Listen fetch name) = Some (ask.Op (op.Listen (scope_of fetch name)))
ask_of_fetch rules now (Changes listener) = Some (ask.Op (op.Changes listener))
ask_of_fetch rules now (Unlisten listener) = Some (ask.Op (op.Unlisten listener))
ask_of_fetch rules now Post = Some (ask.Op op.Post)
ask_of_fetch rules now (Hear actor n) = Some (ask.Op (op.Hear actor n))
ask_of_fetch rules now (Read url) = None
ask_of_fetch rules now (Write line url) = None

-- ---- a renderer

-- the manager of a document and its site
abbrev pub manager_of : View → ManagerStanding
manager_of sees = new_manager sees.0 sees.1

-- what a read of a place asks, whose origin is the document's or isn't
abbrev pub ask_of_read : View → Place → Bool → Ask
ask_of_read sees place true = ask.Op (read_of (manager_of sees) place)
ask_of_read sees place false = ask.Refused OriginMismatch

-- what a write asks, that comes to this; want of memory is nothing that it comes to
abbrev pub ask_of_write : Result Op WriteRefusal → Ask
ask_of_write (Ok asked) = ask.Op asked
ask_of_write (Err write.OriginMismatch) = ask.Refused OriginMismatch
ask_of_write (Err (write.Line why)) = ask.Refused (of_line why)
ask_of_write (Err (write.Cookie why)) = ask.Refused (of_cookie why)
ask_of_write (Err write.NoMemory) = ask.Refused OriginMismatch

-- what a renderer asks at a moment; it has none of the steps that a fetch alone may have
abbrev pub ask_of_renderer : List SuffixRule → View → ℕ → What → Option Ask
ask_of_renderer rules sees now (Set fetch line) = None
ask_of_renderer rules sees now (Get fetch) = None
ask_of_renderer rules sees now (Delete host name path) = None
ask_of_renderer rules sees now All = None
ask_of_renderer rules sees now Clear = None
ask_of_renderer rules sees now (Listen fetch name) = Some (ask.Op (listen_of (manager_of sees) name))
ask_of_renderer rules sees now (Changes listener) = Some (ask.Op (op.Changes listener))
ask_of_renderer rules sees now (Unlisten listener) = Some (ask.Op (op.Unlisten listener))
ask_of_renderer rules sees now Post = Some (ask.Op op.Post)
ask_of_renderer rules sees now (Hear actor n) = Some (ask.Op (op.Hear actor n))
ask_of_renderer rules sees now (Read url) =
    let place = asked_place sees.0 url in
    Some (ask_of_read sees place (is_same_origin place sees.0))
ask_of_renderer rules sees now (Write line url) =
    Some (ask_of_write (write_at rules (manager_of sees) (asked_place sees.0 url) line now))

-- ---- a turn

-- what is asked at a moment, by who asks
abbrev pub ask_at : List SuffixRule → Option View → ℕ → What → Option Ask
ask_at rules None now what = ask_of_fetch rules now what
ask_at rules (Some sees) now what = ask_of_renderer rules sees now what

-- what a renderer asks before its first step: to bind its document's key
abbrev pub ask_to_bind : Option View → Option Ask
ask_to_bind None = None
ask_to_bind (Some sees) = Some (ask.Op (bind_of (manager_of sees)))

-- what a turn asks by the suffix rules
abbrev pub ask_of : List SuffixRule → Option View → Turn → Option Ask
ask_of rules sees binds = ask_to_bind sees
ask_of rules sees (does step) = ask_at rules sees step.now step.what

-- ---- that no public clause cites

-- something is asked, and an op that is asked has the key of its host
abbrev pub MayBeAsked : Rules → Option Ask → Type 0
MayBeAsked r None = ⊥
MayBeAsked r (Some (ask.Op op)) = is_well_keyed r op ≡ true
MayBeAsked r (Some (ask.Refused name)) = Unit {0}
