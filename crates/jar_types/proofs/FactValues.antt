-- Cookies and a request that facts of this crate are about.
use Rattle.std.proofs.Common.{ℕ, List, true, false, None, Some}
use Rattle.std.specs.Prelude.{codes}
use Rattle.jar_values.specs.declared.attributes.SameSite.TheVariants.{Unspecified}
use Rattle.jar_values.specs.declared.attributes.Priority.TheVariants.{Medium}
use Rattle.jar_types.specs.declared.cookie.Cookie.{Cookie}
use Rattle.jar_types.specs.declared.request.Request.{Request}
use Rattle.jar_types.specs.declared.request.Context.TheVariants.{Strict}

-- a session cookie of h.test, and what differs from it
abbrev pub a : Cookie
a = record {
  key = codes "h.test";
  host = codes "h.test";
  name = codes "a";
  path = codes "/";
  value = codes "1";
  creation = 5;
  access = 5;
  expiry = None;
  secure = false;
  http_only = false;
  same_site = Unspecified;
  priority = Medium;
}

abbrev pub named : List ℕ → List ℕ → Cookie
named name value = record a { name = name; value = value }

-- a request of h.test for /docs/web
abbrev pub q : Request
q = record { key = codes "h.test"; host = codes "h.test"; path = codes "/docs/web"; secure = false; script = false; context = Strict }

-- a cookie of a's id, and that one as it is stored in the place of a
abbrev pub b : Cookie
b = record a { value = codes "2"; creation = 7; access = 7 }

abbrev pub b' : Cookie
b' = record b { creation = 5 }

-- a, where it expires at 7
abbrev pub old : Cookie
old = record a { expiry = Some 7 }

-- a cookie that another key has, of a host of that key
abbrev pub other : Cookie
other = record a { key = codes "i.test"; host = codes "i.test" }

-- a, which no script gets
abbrev pub hidden : Cookie
hidden = record a { http_only = true }

-- the request, made by a script
abbrev pub by_script : Request
by_script = record q { script = true }
