use Rattle.file_run.proofs.Putting.{writes_after}
use Rattle.file_run.proofs.parts.close_run.Goals as goal

pub returns-in-Ok-clause-writes : goal.returns-in-Ok-clause-writes
returns-in-Ok-clause-writes g c =
    writes_after c.args.output.now c.put_text.new.output _ _ _ _ _ _ _ c.args.ended c.close.result c.in-Ok.ensures.puts c.in-Ok.ensures.cause.stayed c.close.ensures.writes
