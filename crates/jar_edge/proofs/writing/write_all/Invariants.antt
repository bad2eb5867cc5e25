use Rattle.std.proofs.Common.{◌≡◌, ◌-◌, ◌≤◌, length, take}
use Rattle.jar_edge.specs.Streams.{TakesJust}
use Rattle.jar_edge.proofs.writing.write_all.Given as goal

abbrev pub invariant-loop-done : goal.invariant-loop-done
invariant-loop-done g l =
    let before = g.O.Sink.told l.initial.sink in
    let now = g.O.Sink.told l.sink in
    (l.done ≤ length l.bytes) × TakesJust before now (take l.done l.bytes) × (now.faults ≡ before.faults)

abbrev pub decreases-loop-done : goal.decreases-loop-done
decreases-loop-done g l = length l.bytes - l.done
