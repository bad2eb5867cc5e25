use Rattle.std.proofs.Common.{◌≡◌, ◌≤◌, ◌-◌, List, length, drop, map}
use Rattle.public_suffix.specs.declared.rule.Rule.{Rule}
use Rattle.public_suffix.specs.Labels.{labels_of}
use Rattle.public_suffix.specs.Seen.{rule_seen}
use Rattle.public_suffix.specs.Tables.{IsTableOf, IsFoundOf}
use Rattle.public_suffix.proofs.WalkLemmas.{last_bytes, ending_with}
use Rattle.public_suffix.proofs.table.RuleTable.suffix_len.Given as goal

abbrev pub invariant-bytes : goal.invariant-bytes
invariant-bytes l = record {
  bytes : l.bytes ≡ l.host;
  depth : l.depth ≤ length l.host;
  count : l.found.count ≤ l.depth;
  ending : l.ending ≡ ending_with (last_bytes l.depth l.host) l.self.sorted.items;
  found : (rules : List Rule) → IsTableOf l.self rules → IsFoundOf (map rule_seen rules) (drop 1 (labels_of (last_bytes l.depth l.host))) l.found;
}

abbrev pub decreases-bytes : goal.decreases-bytes
decreases-bytes l = length l.bytes - l.depth
