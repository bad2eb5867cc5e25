-- Requests as JSON, with their six fields. This jar's own rule: docs/DEFINITIONS.md.
use Rattle.std.specs.Prelude.{ℕ, List, Option, None, Some, codes}
use Rattle.serde_json.specs.Data.{Data, null, boolean, string, object, no_members, member}
use Rattle.jar_types.specs.declared.request.Request.{Request}
use Rattle.jar_types.specs.declared.request.Context.{Context}
use Rattle.jar_types.specs.declared.request.Context.TheVariants.{Strict, Lax, LaxUnsafe, Cross}

-- the word of a context
abbrev pub context_word : Context → List ℕ
context_word Strict = codes "strict"
context_word Lax = codes "lax"
context_word LaxUnsafe = codes "lax_unsafe"
context_word Cross = codes "cross"

-- a request
abbrev pub request_data : Request → Data
request_data q =
    object
    (member (codes "context") (string (context_word q.context))
    (member (codes "host") (string q.host)
    (member (codes "key") (string q.key)
    (member (codes "path") (string q.path)
    (member (codes "script") (boolean q.script)
    (member (codes "secure") (boolean q.secure)
    no_members))))))

-- a request, or null for none
abbrev pub request_or_null : Option Request → Data
request_or_null None = null
request_or_null (Some q) = request_data q
