-- Ops as JSON, each with its kind. This jar's own rule: docs/DEFINITIONS.md.
use Rattle.std.specs.Prelude.{ℕ, List, Option, None, Some, codes}
use Rattle.serde_json.specs.Data.{Data, boolean, string, object, no_members, member}
use Rattle.jar_types.specs.declared.listener.Scope.TheVariants as scope
use Rattle.jar_types.specs.declared.op.Op.{Op}
use Rattle.jar_types.specs.declared.op.Op.TheVariants.{Bind, Set, Get, Delete, All, Clear, Listen, Changes, Unlisten, Post, Hear}
use Rattle.jar_types.specs.declared.request.Request.{Request}
use Rattle.run_report.specs.Values.{count_data, text_or_null, sole}
use Rattle.run_report.specs.Cookies.{cookie_data}
use Rattle.run_report.specs.Requests.{request_data, request_or_null}

-- an op that has nothing but its kind
abbrev pub kind_data : List ℕ → Data
kind_data kind = sole (codes "kind") (string kind)

-- an op on the listener of a number
abbrev pub listener_op_data : List ℕ → ℕ → Data
listener_op_data kind number =
    object
    (member (codes "kind") (string kind)
    (member (codes "listener") (count_data number)
    no_members))

-- a listen, for a name and a request where they are there
abbrev pub listen_data : Option (List ℕ) → Option Request → Data
listen_data name request =
    object
    (member (codes "kind") (string (codes "listen"))
    (member (codes "name") (text_or_null name)
    (member (codes "request") (request_or_null request)
    no_members)))

-- an op
abbrev pub op_data : Op → Data
op_data (Bind key) =
    object
    (member (codes "key") (string key)
    (member (codes "kind") (string (codes "bind"))
    no_members))
op_data (Set cookie script secure) =
    object
    (member (codes "cookie") (cookie_data cookie)
    (member (codes "kind") (string (codes "set"))
    (member (codes "script") (boolean script)
    (member (codes "secure") (boolean secure)
    no_members))))
op_data (Get request) =
    object
    (member (codes "kind") (string (codes "get"))
    (member (codes "request") (request_data request)
    no_members))
op_data (Delete key id) =
    object
    (member (codes "host") (string id.host)
    (member (codes "key") (string key)
    (member (codes "kind") (string (codes "delete"))
    (member (codes "name") (string id.name)
    (member (codes "path") (string id.path)
    no_members)))))
op_data All = kind_data (codes "all")
op_data Clear = kind_data (codes "clear")
op_data (Listen scope.All) = listen_data None None
op_data (Listen (scope.Seen request)) = listen_data None (Some request)
op_data (Listen (scope.Named request name)) = listen_data (Some name) (Some request)
op_data (Changes number) = listener_op_data (codes "changes") number
op_data (Unlisten number) = listener_op_data (codes "unlisten") number
op_data Post = kind_data (codes "post")
op_data (Hear actor n) =
    object
    (member (codes "actor") (count_data actor)
    (member (codes "kind") (string (codes "hear"))
    (member (codes "n") (count_data n)
    no_members)))
