use Rattle.std.proofs.Common.{◌≡◌}
use Rattle.worked_cases.proofs.of_param_load.outcome.Given as goal

abbrev pub invariant-loop-frame : goal.invariant-loop-frame
invariant-loop-frame l = (l.upload.pieces.piece ≡ 2) × (l.upload.pieces.expected ≡ l.initial.upload.pieces.expected)
