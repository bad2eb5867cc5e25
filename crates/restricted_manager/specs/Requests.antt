-- What a renderer asks of the jar. This jar's own rule: docs/DEFINITIONS.md.
use Rattle.std.specs.Prelude.{ℕ, List, true, Option, None, Some}
use Rattle.jar_types.specs.declared.listener.Scope.{Scope}
use Rattle.jar_types.specs.declared.listener.Scope.TheVariants.{Seen, Named}
use Rattle.jar_types.specs.declared.op.Op.{Op}
use Rattle.jar_types.specs.declared.op.Op.TheVariants.{Bind, Get, Listen}
use Rattle.jar_types.specs.declared.request.Request.{Request}
use Rattle.site_match.specs.declared.place.Place.{Place}
use Rattle.site_match.specs.Contexts.{fetch_context}
use Rattle.site_match.specs.Schemes.{is_secure}
use Rattle.restricted_manager.specs.Managers.{ManagerStanding}

-- the request of a renderer for a place: by a script, in the context of no navigation with the
-- renderer's site for cookies
abbrev pub request_of : Place → Option Place → Request
request_of place site = record {
  key = place.key;
  host = place.host;
  path = place.path;
  secure = is_secure place.scheme;
  script = true;
  context = fetch_context place site;
}

-- to bind the document's key to a cell
abbrev pub bind_of : ManagerStanding → Op
bind_of manager = Bind manager.document.key

-- to read the cookies of a place
abbrev pub read_of : ManagerStanding → Place → Op
read_of manager place = Get (request_of place manager.site)

-- which changes a listener gets: those of the cookies of a request, or of these those of a name
abbrev pub scope_of : Request → Option (List ℕ) → Scope
scope_of request None = Seen request
scope_of request (Some name) = Named request name

-- to listen to the changes of the document's cookies, of all or of those of a name
abbrev pub listen_of : ManagerStanding → Option (List ℕ) → Op
listen_of manager name = Listen (scope_of (request_of manager.document manager.site) name)
