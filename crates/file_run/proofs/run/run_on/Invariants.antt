use Rattle.file_run.proofs.Common.{IsLent, Option, Runs, since}
use Rattle.std.proofs.Common.{◌-◌, ◌≤◌, ℕ, List}
use Rattle.file_run.proofs.run.run_on.Given as goal

abbrev pub invariant-loop-ended : goal.invariant-loop-ended
invariant-loop-ended g l = record {
  few : l.events ≤ 200000;
  runs : (input : Option (List ℕ)) → IsLent input l.fn.reader (g.S.Source.left l.fn.source)
      → Runs (g.M.Machine.reporting l.fn.handed) (g.M.Machine.stands l.fn.handed l.run.machine l.handed) (g.M.Format.Format.says l.run.grammar)
      (since (record { input = input; written = g.K.Sink.written l.fn.sink; source_faults = g.S.Source.faults l.fn.source; sink_faults = g.K.Sink.faults l.fn.sink })
      (g.S.Source.left l.source) (g.S.Source.faults l.source) (g.K.Sink.written l.sink) (g.K.Sink.faults l.sink)) l.reader.bytes l.run.output l.events l.reader.lines;
}

abbrev pub decreases-loop-ended : goal.decreases-loop-ended
decreases-loop-ended g l = 200001 - l.events
