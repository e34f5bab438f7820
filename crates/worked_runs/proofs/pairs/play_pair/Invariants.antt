use Rattle.std.proofs.Common.{◌≤◌, length}
use Rattle.duo_run.specs.Duo.{steps_done}
use Rattle.worked_runs.proofs.pairs.play_pair.Given as goal

-- as many entries were kept as steps were done, at least
abbrev pub invariant-loop-step : goal.invariant-loop-step
invariant-loop-step l = steps_done l.pair.duo ≤ length l.pair.entries.items
