-- Which place a renderer's step is about, and how it stands to the renderer's document.
-- This jar's own rule: docs/DEFINITIONS.md.
use Rattle.std.specs.Prelude.{Bool, true, false, ◌&&◌, ◌==◌, bytes_eq, Option, None, Some}
use Rattle.site_match.specs.declared.place.Place.{Place}
use Rattle.site_match.specs.declared.scheme.Scheme.{Scheme}
use Rattle.site_match.specs.declared.scheme.Scheme.TheVariants.{Http, Https, Ws, Wss}

-- the place of a step: the document's where the step names none
abbrev pub asked_place : Place → Option Place → Place
asked_place document None = document
asked_place document (Some place) = place

-- whether two schemes are the same
abbrev pub is_same_scheme : Scheme → Scheme → Bool
is_same_scheme Http Http = true
is_same_scheme Https Https = true
is_same_scheme Ws Ws = true
is_same_scheme Wss Wss = true
is_same_scheme p q = false

-- whether two places have one origin: the same scheme, host and port
abbrev pub is_same_origin : Place → Place → Bool
is_same_origin p q = is_same_scheme p.scheme q.scheme && bytes_eq p.host q.host && p.port == q.port

-- whether two places are the same: one origin, and the same path and key
abbrev pub is_same_place : Place → Place → Bool
is_same_place p q = is_same_origin p q && bytes_eq p.path q.path && bytes_eq p.key q.key
