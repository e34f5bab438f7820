use Rattle.pair_convert.proofs.Common.{input_cause, took_one}
use Rattle.std.proofs.Common.{◌+◌, ◌∙◌}
use Rattle.pair_convert.proofs.Conversion.Converting.{next_refused}
use Rattle.pair_convert.proofs.convert.next_taken.Goals as goal

pub returns-in-Err-clause-finds : goal.returns-in-Err-clause-finds
returns-in-Err-clause-finds g c =
    let line = c.in_ok-next_line.ensures.finds in
    next_refused (c.args.reader.now.lines + 1) c.args.reading.now _ _ c.next_line.new.reader.line (input_cause c.in-Err.cause) line.0 line.1
    (rw (c.line.ensures, c.lines.ensures ∙ c.in_ok-next_line.ensures.goes) at c.in-Err.ensures.takes)

pub returns-in-Err-clause-goes : goal.returns-in-Err-clause-goes
returns-in-Err-clause-goes g c = (c.lines-in-Err.ensures ∙ c.in_ok-next_line.ensures.goes, took_one _ _ c.next_line.new.reader.line c.in_ok-next_line.ensures.finds.0 c.in_ok-next_line.ensures.finds.1)
