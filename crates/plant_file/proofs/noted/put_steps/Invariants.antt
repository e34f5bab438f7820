use Rattle.std.proofs.Common.{◌≡◌, ◌≤◌, ◌+◌, ◌*◌, drop, length}
use Rattle.file_run.proofs.Putting.{Putting}
use Rattle.plant_file.specs.JournalText.{journal_text}
use Rattle.plant_file.proofs.noted.put_steps.Given as goal

abbrev pub invariant-loop-step : goal.invariant-loop-step
invariant-loop-step g l = record {
  putting : Putting l.fn.output l.output (g.K.Sink.written l.fn.sink) (g.K.Sink.written l.sink) (journal_text l.steps) (journal_text (drop l.step-index l.steps));
  room : l.output.sent + length l.output.bytes ≤ l.fn.output.sent + length l.fn.output.bytes + 1024 * l.step-index;
  stays : g.K.Sink.faults l.sink ≡ g.K.Sink.faults l.fn.sink;
}
