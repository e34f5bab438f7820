use Rattle.std.proofs.Common.{◌≤◌, length}
use Rattle.duo_run.specs.Duo.{steps_done}
use Rattle.worked_runs.proofs.pairs.Played.lines.Given as goal

-- as many entries were kept as steps were done, at least
abbrev pub invariant-loop-line : goal.invariant-loop-line
invariant-loop-line l = steps_done l.self.duo ≤ length l.self.entries.items
