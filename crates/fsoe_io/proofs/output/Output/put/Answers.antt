use Rattle.std.proofs.Common.{◌++◌}
use Rattle.std.proofs.lemmas.Result.{err_from_is_err_and}
use Rattle.fsoe_io.proofs.Passing.{loses_piece}
use Rattle.fsoe_io.proofs.output.Output.put.Goals as goal

pub returns-in_err-flush-clause-puts : goal.returns-in_err-flush-clause-puts
returns-in_err-flush-clause-puts g c =
    let p = err_from_is_err_and c.from_residual.result c.from_residual.ensures.1 in
    let sent = c.in_err-flush.ensures.puts in
    rw p.1 (sent.0 ++ c.args.piece.now, loses_piece _ _ _ _ _ _ sent.1)
