use Rattle.std.proofs.Common.{rules}
use Rattle.image_file.proofs.spans.lie_inside.Goals as goal

pub returns-then-reaches_into : goal.returns-then-reaches_into
returns-then-reaches_into c = search rules
