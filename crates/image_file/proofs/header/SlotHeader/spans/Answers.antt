use Rattle.std.proofs.Common.{rules}
use Rattle.image_file.proofs.header.SlotHeader.spans.Goals as goal

pub returns : goal.returns
returns c = search rules
