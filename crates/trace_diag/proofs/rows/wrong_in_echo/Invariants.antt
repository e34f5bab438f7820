use Rattle.trace_diag.proofs.Common.{first_differing, padded}
use Rattle.std.proofs.Common.{◌≡◌, drop, length}
use Rattle.trace_diag.proofs.rows.wrong_in_echo.Given as goal

-- the bytes so far are the same
abbrev pub invariant-loop-p : goal.invariant-loop-p
invariant-loop-p l =
    first_differing 0 l.fn.load (padded l.fn.want (length l.fn.load)) ≡ first_differing l.p (drop l.p l.fn.load) (drop l.p (padded l.fn.want (length l.fn.load)))
