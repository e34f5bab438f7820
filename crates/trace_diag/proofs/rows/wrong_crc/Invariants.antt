use Rattle.trace_diag.proofs.Common.{first_differing}
use Rattle.std.proofs.Common.{◌≡◌, drop}
use Rattle.trace_diag.proofs.rows.wrong_crc.Given as goal

-- the CRCs so far are the same
abbrev pub invariant-loop-group : goal.invariant-loop-group
invariant-loop-group l = first_differing 0 l.fn.view.crcs l.fn.due.crcs ≡ first_differing l.group (drop l.group l.fn.view.crcs) (drop l.group l.fn.due.crcs)
