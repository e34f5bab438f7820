use Rattle.std.proofs.Common.{◌≡◌, length, ◌-◌, ◌≤◌, take}
use Rattle.fsoe_io.specs.Sink.{Grew}
use Rattle.fsoe_io.proofs.sink.put_all.Given as goal

abbrev pub invariant-loop-done : goal.invariant-loop-done
invariant-loop-done g l =
    (l.done ≤ length l.bytes)
    × (g.K.Sink.faults l.sink ≡ g.K.Sink.faults l.initial.sink)
    × Grew (g.K.Sink.written l.initial.sink) (g.K.Sink.written l.sink) (take l.done l.bytes)

abbrev pub decreases-loop-done : goal.decreases-loop-done
decreases-loop-done g l = length l.bytes - l.done
