use Rattle.trace_diag.proofs.Common.{first_failing, payload_holds, piece_holds}
use Rattle.std.proofs.Common.{◌≡◌, drop}
use Rattle.trace_diag.proofs.rows.wrong_in_piece.Given as goal

-- the bytes so far hold
abbrev pub invariant-loop-p : goal.invariant-loop-p
invariant-loop-p l =
    first_failing (piece_holds l.fn.c (payload_holds l.fn.phase l.fn.conn l.fn.parameters) l.fn.from) 0 l.fn.load
    ≡ first_failing (piece_holds l.fn.c (payload_holds l.fn.phase l.fn.conn l.fn.parameters) l.fn.from) l.p (drop l.p l.fn.load)
