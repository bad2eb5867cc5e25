use Rattle.std.proofs.Common.{◌≡◌, ◌++◌, drop, map}
use Rattle.json.specs.Tree.{items_tokens}
use Rattle.serde_json.specs.View.{items_of}
use Rattle.serde_json.specs.Written.{items_outline}
use Rattle.serde_json.specs.Data.{string}
use Rattle.run_report.specs.Reports.{hosts_data}
use Rattle.run_report.specs.Tokens.{data_tokens}
use Rattle.run_report.proofs.report.write_hosts.Given as goal

abbrev pub invariant-loop-host : goal.invariant-loop-host
invariant-loop-host l =
    (l.out.before ≡ l.fn.out.before)
    × (l.out.tokens ++ items_tokens (items_outline (items_of (map string (drop l.host-index l.hosts))))
    ≡ l.fn.out.tokens ++ data_tokens (hosts_data l.hosts))
