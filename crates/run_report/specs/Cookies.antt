-- Cookies as JSON, with their twelve fields. This jar's own rule: docs/DEFINITIONS.md.
use Rattle.std.specs.Prelude.{ℕ, List, codes}
use Rattle.serde_json.specs.Data.{Data, boolean, string, object, no_members, member}
use Rattle.jar_types.specs.declared.cookie.Cookie.{Cookie}
use Rattle.jar_values.specs.declared.attributes.Priority.{Priority}
use Rattle.jar_values.specs.declared.attributes.Priority.TheVariants.{Low, Medium, High}
use Rattle.jar_values.specs.declared.attributes.SameSite.{SameSite}
use Rattle.jar_values.specs.declared.attributes.SameSite.TheVariants.{Unspecified, NoLimit, Lax, Strict}
use Rattle.run_report.specs.Values.{count_data, count_or_null, list_data}

-- the word of a priority
abbrev pub priority_word : Priority → List ℕ
priority_word Low = codes "low"
priority_word Medium = codes "medium"
priority_word High = codes "high"

-- the word of a SameSite
abbrev pub same_site_word : SameSite → List ℕ
same_site_word Unspecified = codes "unspecified"
same_site_word NoLimit = codes "none"
same_site_word Lax = codes "lax"
same_site_word Strict = codes "strict"

-- a cookie
abbrev pub cookie_data : Cookie → Data
cookie_data c =
    object
    (member (codes "access") (count_data c.access)
    (member (codes "creation") (count_data c.creation)
    (member (codes "expiry") (count_or_null c.expiry)
    (member (codes "host") (string c.host)
    (member (codes "http_only") (boolean c.http_only)
    (member (codes "key") (string c.key)
    (member (codes "name") (string c.name)
    (member (codes "path") (string c.path)
    (member (codes "priority") (string (priority_word c.priority))
    (member (codes "same_site") (string (same_site_word c.same_site))
    (member (codes "secure") (boolean c.secure)
    (member (codes "value") (string c.value)
    no_members))))))))))))

-- cookies
abbrev pub cookies_data : List Cookie → Data
cookies_data cookies = list_data cookie_data cookies
