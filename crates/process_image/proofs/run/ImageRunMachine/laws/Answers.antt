use Rattle.process_image.proofs.Common.{ended_at, image_format, input_read}
use Rattle.std.proofs.Common.{refl}
use Rattle.process_image.proofs.Runs.{so_far}
use Rattle.process_image.proofs.SomeReport.{some_report}
use Rattle.process_image.proofs.run.ImageRunMachine.laws.Goals as goal

pub returns-clause-some : goal.returns-clause-some
returns-clause-some c = λ alloc bytes. let r = some_report bytes in (r.0, ended_at (input_read image_format bytes).stop, (r.1, refl))

pub returns-clause-so_far : goal.returns-clause-so_far
returns-clause-so_far c = λ first v now h log text r. so_far v.images h log text r
