use Rattle.std.proofs.Common.{◌≡◌, ◌+◌, ◌-◌, ◌≤◌, length, vec_len}
use Rattle.jar_edge.specs.Streams.{GivesJust}
use Rattle.jar_edge.proofs.reading.read_whole.Given as goal

abbrev pub invariant-loop-chunk : goal.invariant-loop-chunk
invariant-loop-chunk g l =
    let before = g.S.Source.told l.initial.source in
    let now = g.S.Source.told l.source in
    GivesJust before now l.bytes.items × (length l.bytes.items ≤ l.limit + 1) × (now.faults ≡ before.faults)

abbrev pub decreases-loop-chunk : goal.decreases-loop-chunk
decreases-loop-chunk g l = l.limit + 1 - vec_len l.bytes
