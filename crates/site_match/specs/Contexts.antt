-- How a fetch stands to the site that it is made for: this jar's own rule, after the 6265bis draft,
-- section 5.2.
use Rattle.std.specs.Prelude.{Bool, true, false, ◌&&◌, bytes_eq, Option, None, Some, if◌then◌else◌}
use Rattle.std.specs.Bool.{beq}
use Rattle.jar_types.specs.declared.request.Context.{Context}
use Rattle.jar_types.specs.declared.request.Context.TheVariants.{Strict, Lax, LaxUnsafe, Cross}
use Rattle.site_match.specs.declared.place.Place.{Place}
use Rattle.site_match.specs.declared.fetch.FetchAsk.{FetchAsk}
use Rattle.site_match.specs.Schemes.{is_secure}

-- both places are secure or both aren't, and their keys are the same
abbrev pub is_same_site : Place → Place → Bool
is_same_site p q = beq (is_secure p.scheme) (is_secure q.scheme) && bytes_eq p.key q.key

-- what is no navigation is strict on a site for cookies that is the place's
abbrev pub fetch_context : Place → Option Place → Context
fetch_context place None = Cross
fetch_context place (Some site) = if is_same_site site place then Strict else Cross

-- a navigation from another site goes by its method
abbrev pub method_context : Bool → Context
method_context true = Lax
method_context false = LaxUnsafe

-- a navigation is strict without an initiator, or with one of the place's site
abbrev pub navigation_context : Place → Option Place → Bool → Context
navigation_context place None safe = Strict
navigation_context place (Some initiator) safe =
    if is_same_site initiator place then Strict else method_context safe

-- the context of a fetch
abbrev pub context_of : FetchAsk → Context
context_of ask =
    if ask.navigation
    then navigation_context ask.place ask.initiator ask.safe_method
    else fetch_context ask.place ask.site
