-- What contracts see of a block of a net, whatever memory its wires lie in.
use Rattle.std.specs.Prelude.{List}
use Rattle.fb_lib.specs.declared.block.Block.{Block}
use Rattle.fb_net.specs.declared.wire.Wire.{Wire}

-- a block, and what its inputs read
pub record BlockSpec : Type 0 where
  pub block : Block
  pub ins : List Wire
