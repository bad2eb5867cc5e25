-- The form of a script at JSON texts, as docs/DEFINITIONS.md has it: of each object what is of the form,
-- and the first path at which another isn't.
use Rattle.std.proofs.Common.{◌≡◌, ℕ, List, [], ◌++◌, codes, Option, Some, None, option_map, refl}
use Rattle.std.specs.Fmt.{digits}
use Rattle.serde_json.specs.Read.{read}
use Rattle.serde_json.proofs.OnLiterals.{serde_json_on_literals}
use Rattle.json_form.specs.Forms.{misfit}
use Rattle.json_form.specs.declared.setting.Pass.TheVariants.{Shapes, Moments}
use Rattle.script_text.specs.Form.{script}

-- where a text is read, what is amiss in it: nothing, or what is at a path
abbrev judged : List ℕ → Option (Option (List ℕ))
judged t = option_map (misfit Shapes script) (read t)

abbrev fits : Option (Option (List ℕ))
fits = Some None

abbrev amiss_at : List ℕ → Option (Option (List ℕ))
amiss_at path = Some (Some path)

-- ---- scripts

scripts : (judged (codes "[]") ≡ amiss_at []) × (judged (codes "{}") ≡ amiss_at []) × (judged (codes "{\"actors\":[]}") ≡ fits)
    × (judged (codes "{\"actors\":{}}") ≡ amiss_at (codes "/actors"))
    × (judged (codes "{\"actors\":[],\"x/~\":1}") ≡ amiss_at (codes "/x~1~0"))
unfolding serde_json_on_literals digits
scripts = (refl, refl, refl, refl, refl)

limits : (judged (codes "{\"actors\":[],\"limit\":0}") ≡ amiss_at (codes "/limit")) × (judged (codes "{\"actors\":[],\"limit\":1}") ≡ fits)
    × (judged (codes "{\"actors\":[],\"limit\":1000000}") ≡ fits)
    × (judged (codes "{\"actors\":[],\"limit\":1000001}") ≡ amiss_at (codes "/limit"))
unfolding serde_json_on_literals digits
limits = (refl, refl, refl, refl)

-- a moment out of range is of the form, and a text is none
starts : (judged (codes "{\"actors\":[],\"start\":-1}") ≡ fits) × (judged (codes "{\"actors\":[],\"start\":18446744073709551615}") ≡ fits)
    × (judged (codes "{\"actors\":[],\"start\":\"0\"}") ≡ amiss_at (codes "/start"))
    × (judged (codes "{\"actors\":[],\"suffixes\":null}") ≡ amiss_at (codes "/suffixes"))
unfolding serde_json_on_literals digits
starts = (refl, refl, refl, refl)

-- ---- actors

-- a script of one actor
abbrev of_actor : List ℕ → Option (Option (List ℕ))
of_actor actor = judged (codes "{\"actors\":[" ++ (actor ++ codes "]}"))

actors : (of_actor (codes "1") ≡ amiss_at (codes "/actors/0")) × (of_actor (codes "{\"steps\":[]}") ≡ amiss_at (codes "/actors/0"))
    × (of_actor (codes "{\"kind\":\"reader\"}") ≡ amiss_at (codes "/actors/0/kind"))
    × (of_actor (codes "{\"kind\":null,\"x\":1}") ≡ amiss_at (codes "/actors/0/kind"))
unfolding serde_json_on_literals digits
actors = (refl, refl, refl, refl)

fetches : (of_actor (codes "{\"kind\":\"fetch\",\"steps\":[]}") ≡ fits) × (of_actor (codes "{\"kind\":\"fetch\"}") ≡ amiss_at (codes "/actors/0"))
    × (of_actor (codes "{\"document\":\"u\",\"kind\":\"fetch\",\"steps\":[]}") ≡ amiss_at (codes "/actors/0/document"))
    × (of_actor (codes "{\"kind\":\"fetch\",\"steps\":null}") ≡ amiss_at (codes "/actors/0/steps"))
unfolding serde_json_on_literals digits
fetches = (refl, refl, refl, refl)

renderers : (of_actor (codes "{\"document\":\"u\",\"kind\":\"renderer\",\"site\":null,\"steps\":[]}") ≡ fits)
    × (of_actor (codes "{\"document\":\"u\",\"kind\":\"renderer\",\"site\":\"v\",\"steps\":[]}") ≡ fits)
    × (of_actor (codes "{\"document\":\"u\",\"kind\":\"renderer\",\"steps\":[]}") ≡ amiss_at (codes "/actors/0"))
    × (of_actor (codes "{\"document\":null,\"kind\":\"renderer\",\"site\":1,\"steps\":[]}") ≡ amiss_at (codes "/actors/0/document"))
    × (of_actor (codes "{\"document\":\"u\",\"kind\":\"renderer\",\"site\":1,\"steps\":0}") ≡ amiss_at (codes "/actors/0/site"))
unfolding serde_json_on_literals digits
renderers = (refl, refl, refl, refl, refl)

-- ---- steps of a fetch

abbrev of_fetch : List ℕ → Option (Option (List ℕ))
of_fetch steps = of_actor (codes "{\"kind\":\"fetch\",\"steps\":[" ++ (steps ++ codes "]}"))

-- the path inside the first step, and inside the second
abbrev at_first : List ℕ → Option (Option (List ℕ))
at_first path = amiss_at (codes "/actors/0/steps/0" ++ path)

abbrev at_second : List ℕ → Option (Option (List ℕ))
at_second path = amiss_at (codes "/actors/0/steps/1" ++ path)

-- where the word is amiss nothing else is looked at
words : (of_fetch (codes "[]") ≡ at_first []) × (of_fetch (codes "{\"now\":\"x\"}") ≡ at_first [])
    × (of_fetch (codes "{\"op\":\"read\"}") ≡ at_first (codes "/op")) × (of_fetch (codes "{\"a\":1,\"op\":\"Set\"}") ≡ at_first (codes "/op"))
    × (of_fetch (codes "{\"op\":\"post\"}") ≡ at_first []) × (of_fetch (codes "{\"now\":0,\"op\":\"post\",\"url\":\"u\"}") ≡ at_first (codes "/url"))
unfolding serde_json_on_literals digits
words = (refl, refl, refl, refl, refl, refl)

sets : (of_fetch (codes "{\"line\":\"\",\"now\":0,\"op\":\"set\",\"url\":\"\"}") ≡ fits)
    × (of_fetch (codes "{\"initiator\":\"i\",\"line\":\"l\",\"method\":\"m\",\"navigation\":true,\"now\":0,\"op\":\"set\",\"site\":null,\"url\":\"u\"}") ≡ fits)
    × (of_fetch (codes "{\"now\":0,\"op\":\"set\",\"url\":\"u\"}") ≡ at_first [])
    × (of_fetch (codes "{\"line\":\"l\",\"name\":\"n\",\"now\":0,\"op\":\"set\",\"url\":\"u\"}") ≡ at_first (codes "/name"))
unfolding serde_json_on_literals digits
sets = (refl, refl, refl, refl)

-- of two members that are amiss the first in the order of their names
gets : (of_fetch (codes "{\"now\":0,\"op\":\"get\",\"url\":\"u\"}") ≡ fits)
    × (of_fetch (codes "{\"url\":1,\"op\":\"get\",\"now\":0,\"line\":1}") ≡ at_first (codes "/line"))
    × (of_fetch (codes "{\"initiator\":null,\"method\":null,\"now\":0,\"op\":\"get\",\"url\":\"u\"}") ≡ at_first (codes "/initiator"))
    × (of_fetch (codes "{\"method\":null,\"navigation\":0,\"now\":0,\"op\":\"get\",\"url\":\"u\"}") ≡ at_first (codes "/method"))
    × (of_fetch (codes "{\"navigation\":\"true\",\"now\":0,\"op\":\"get\",\"site\":0,\"url\":\"u\"}") ≡ at_first (codes "/navigation"))
    × (of_fetch (codes "{\"now\":0,\"op\":\"get\",\"site\":0,\"url\":\"u\"}") ≡ at_first (codes "/site"))
unfolding serde_json_on_literals digits
gets = (refl, refl, refl, refl, refl, refl)

deletes : (of_fetch (codes "{\"host\":\"h\",\"name\":\"n\",\"now\":0,\"op\":\"delete\",\"path\":\"p\"}") ≡ fits)
    × (of_fetch (codes "{\"host\":\"h\",\"now\":0,\"op\":\"delete\",\"path\":\"p\"}") ≡ at_first [])
    × (of_fetch (codes "{\"now\":0,\"op\":\"all\"},{\"now\":0,\"op\":\"clear\",\"path\":\"p\"}") ≡ at_second (codes "/path"))
unfolding serde_json_on_literals digits
deletes = (refl, refl, refl)

-- a fetch's listen has a name and says of itself only where it has a URL
listens : (of_fetch (codes "{\"now\":0,\"op\":\"listen\"}") ≡ fits)
    × (of_fetch (codes "{\"name\":\"n\",\"now\":0,\"op\":\"listen\",\"site\":\"s\",\"url\":\"u\"}") ≡ fits)
    × (of_fetch (codes "{\"name\":\"n\",\"now\":0,\"op\":\"listen\",\"site\":\"s\"}") ≡ at_first (codes "/name"))
    × (of_fetch (codes "{\"now\":0,\"op\":\"listen\",\"site\":\"s\"}") ≡ at_first (codes "/site"))
unfolding serde_json_on_literals digits
listens = (refl, refl, refl, refl)

-- a listener is one that the actor has before
listeners : (of_fetch (codes "{\"now\":0,\"op\":\"listen\"},{\"listener\":1,\"now\":0,\"op\":\"changes\"}") ≡ fits)
    × (of_fetch (codes "{\"now\":0,\"op\":\"listen\"},{\"listener\":2,\"now\":0,\"op\":\"changes\"}") ≡ at_second (codes "/listener"))
    × (of_fetch (codes "{\"now\":0,\"op\":\"listen\"},{\"listener\":0,\"now\":0,\"op\":\"unlisten\"}") ≡ at_second (codes "/listener"))
    × (of_fetch (codes "{\"listener\":1,\"now\":0,\"op\":\"changes\"},{\"now\":0,\"op\":\"listen\"}") ≡ at_first (codes "/listener"))
unfolding serde_json_on_literals digits
listeners = (refl, refl, refl, refl)

-- the listens of another actor are not the actor's own
others_listeners : judged (codes "{\"actors\":[{\"kind\":\"fetch\",\"steps\":[{\"now\":0,\"op\":\"listen\"}]},{\"kind\":\"fetch\",\"steps\":[{\"listener\":1,\"now\":0,\"op\":\"changes\"}]}]}")
    ≡ amiss_at (codes "/actors/1/steps/0/listener")
unfolding serde_json_on_literals digits
others_listeners = refl

-- a hear is of an actor that there is
hears : (of_fetch (codes "{\"actor\":0,\"n\":1,\"now\":0,\"op\":\"hear\"}") ≡ fits)
    × (of_fetch (codes "{\"actor\":1,\"n\":1,\"now\":0,\"op\":\"hear\"}") ≡ at_first (codes "/actor"))
    × (of_fetch (codes "{\"actor\":0,\"n\":0,\"now\":0,\"op\":\"hear\"}") ≡ at_first (codes "/n"))
    × (of_fetch (codes "{\"actor\":0,\"now\":0,\"op\":\"hear\"}") ≡ at_first [])
unfolding serde_json_on_literals digits
hears = (refl, refl, refl, refl)

-- ---- steps of a renderer

abbrev of_renderer : List ℕ → Option (Option (List ℕ))
of_renderer steps = of_actor (codes "{\"document\":\"u\",\"kind\":\"renderer\",\"site\":null,\"steps\":[" ++ (steps ++ codes "]}"))

renderer_words : (of_renderer (codes "{\"line\":\"l\",\"now\":0,\"op\":\"set\",\"url\":\"u\"}") ≡ at_first (codes "/op"))
    × (of_renderer (codes "{\"now\":0,\"op\":\"clear\"}") ≡ at_first (codes "/op")) × (of_renderer (codes "{\"now\":0,\"op\":\"post\"}") ≡ fits)
    × (of_renderer (codes "{\"now\":0,\"op\":\"listen\",\"url\":\"u\"}") ≡ at_first (codes "/url"))
    × (of_renderer (codes "{\"name\":\"n\",\"now\":0,\"op\":\"listen\"},{\"listener\":1,\"now\":0,\"op\":\"unlisten\"}") ≡ fits)
unfolding serde_json_on_literals digits
renderer_words = (refl, refl, refl, refl, refl)

reads : (of_renderer (codes "{\"now\":0,\"op\":\"read\"}") ≡ fits) × (of_renderer (codes "{\"now\":0,\"op\":\"read\",\"url\":null}") ≡ at_first (codes "/url"))
    × (of_renderer (codes "{\"line\":\"l\",\"now\":0,\"op\":\"write\",\"url\":\"u\"}") ≡ fits)
    × (of_renderer (codes "{\"now\":0,\"op\":\"write\",\"url\":\"u\"}") ≡ at_first [])
    × (of_renderer (codes "{\"line\":0,\"now\":0,\"op\":\"write\",\"site\":\"s\"}") ≡ at_first (codes "/line"))
unfolding serde_json_on_literals digits
reads = (refl, refl, refl, refl, refl)

-- ---- moments

-- what is no moment in a text that is of the form
abbrev timed : List ℕ → Option (Option (List ℕ))
timed t = option_map (misfit Moments script) (read t)

moments : (timed (codes "{\"actors\":[],\"start\":253402300799999}") ≡ fits)
    × (timed (codes "{\"actors\":[],\"start\":253402300800000}") ≡ amiss_at (codes "/start"))
    × (timed (codes "{\"actors\":[{\"kind\":\"fetch\",\"steps\":[{\"now\":0,\"op\":\"post\"},{\"now\":-1,\"op\":\"post\"}]}],\"start\":-1}")
    ≡ amiss_at (codes "/actors/0/steps/1/now"))
unfolding serde_json_on_literals digits
moments = (refl, refl, refl)
