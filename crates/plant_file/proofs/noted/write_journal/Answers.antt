use Rattle.file_run.proofs.Putting.{writes_after, writes_cut}
use Rattle.plant_file.proofs.Noting.{writes_first}
use Rattle.plant_file.proofs.noted.write_journal.Goals as goal

pub returns-in-Ok-clause-wrote : goal.returns-in-Ok-clause-wrote
returns-in-Ok-clause-wrote g c =
    writes_first c.new-output.result c.args.steps.now c.min.result _ c.args.ended c.close.result _ c.new-output.ensures.bytes c.new-output.ensures.sent c.min.ensures
    (writes_after c.new-output.result c.put_steps.new.output _ _ _ _ _ _ _ c.args.ended c.close.result c.in-Ok.ensures.puts c.in-Ok.ensures.cause.stayed c.close.ensures.writes)

pub returns-in-Err-clause-wrote : goal.returns-in-Err-clause-wrote
returns-in-Err-clause-wrote g c =
    writes_first c.new-output.result c.args.steps.now c.min.result _ c.args.ended c.write_failed.result _ c.new-output.ensures.bytes c.new-output.ensures.sent c.min.ensures
    (writes_cut c.in-Err.field-0 c.new-output.result c.put_steps.new.output _ _ _ _ _ c.args.ended c.write_failed.result c.in-Err.ensures.puts c.in-Err.ensures.cause.failed c.write_failed.ensures.status c.write_failed.ensures.place)
