use Rattle.process_image.proofs.Common.{receives}
use Rattle.std.proofs.Common.{◌≡◌, length}
use Rattle.process_image.proofs.Reading.{named_at}
use Rattle.process_image.proofs.images.Images.outputs.Goals as goal

pub returns-clause-len : goal.returns-clause-len
returns-clause-len c = named_at c.args.self.now c.args.slot c.seat.result.now (λ s. length c.outputs.result.now ≡ receives s) c.seat.ensures.there c.outputs.ensures.len
