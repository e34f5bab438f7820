use Rattle.std.proofs.Common.{◌≤◌}
use Rattle.worked_runs.proofs.of_duo_run.judged.Given as goal

-- each monitor noted no more entries than were looked at
abbrev pub invariant-loop-entry : goal.invariant-loop-entry
invariant-loop-entry l = (l.monitor.noted ≤ l.entry-index) × (l.plain.noted ≤ l.entry-index)
