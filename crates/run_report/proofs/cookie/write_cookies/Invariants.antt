use Rattle.std.proofs.Common.{◌≡◌, ◌++◌, drop, map}
use Rattle.json.specs.Tree.{items_tokens}
use Rattle.serde_json.specs.View.{items_of}
use Rattle.serde_json.specs.Written.{items_outline}
use Rattle.run_report.specs.Cookies.{cookie_data, cookies_data}
use Rattle.run_report.specs.Tokens.{data_tokens}
use Rattle.run_report.proofs.cookie.write_cookies.Given as goal

abbrev pub invariant-loop-cookie : goal.invariant-loop-cookie
invariant-loop-cookie l =
    (l.out.before ≡ l.fn.out.before)
    × (l.out.tokens ++ items_tokens (items_outline (items_of (map cookie_data (drop l.cookie-index l.cookies))))
    ≡ l.fn.out.tokens ++ data_tokens (cookies_data l.cookies))
