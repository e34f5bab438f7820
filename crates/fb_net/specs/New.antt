-- Blocks that were just made.
use Rattle.std.specs.Prelude.{◌<◌, []}
use Rattle.fb_lib.specs.Standing.{BlockStands}
use Rattle.fb_net.specs.BlockSpec.{BlockSpec}

-- a block stands for no cycles: it is as it was made
pub record IsNew (b : BlockSpec) : Type 0 where
  pub fits : b.block.n < 65536
  pub stands : BlockStands b.block.kind b.block.n b.block []
