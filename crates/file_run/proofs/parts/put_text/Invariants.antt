use Rattle.file_run.proofs.Common.{StandsAsBefore}
use Rattle.std.proofs.Common.{◌≡◌, ◌≤◌, ◌+◌, ◌*◌, ◌++◌, length}
use Rattle.file_run.proofs.Putting.{Putting}
use Rattle.file_run.proofs.parts.put_text.Given as goal

abbrev pub invariant-loop-machine : goal.invariant-loop-machine
invariant-loop-machine g l = record {
  putting : Putting l.fn.output l.output (g.K.Sink.written l.fn.sink) (g.K.Sink.written l.sink) (l.fn.text ++ g.M.Machine.waits l.fn.machine l.fn.handed) (l.text ++ g.M.Machine.waits l.machine l.fn.handed);
  kept : (first : g.row.M-Handed.Denot) → StandsAsBefore (g.M.Machine.stands first l.fn.machine l.fn.handed) (g.M.Machine.stands first l.machine l.fn.handed);
  room : l.output.sent + length l.output.bytes + 1024 * g.M.Machine.parts l.machine l.fn.handed ≤ l.fn.output.sent + length l.fn.output.bytes + 1024 * g.M.Machine.parts l.fn.machine l.fn.handed;
  stays : g.K.Sink.faults l.sink ≡ g.K.Sink.faults l.fn.sink;
}

abbrev pub decreases-loop-machine : goal.decreases-loop-machine
decreases-loop-machine g l = g.M.Machine.parts l.machine l.fn.handed
