-- What contracts see of a net.
use Rattle.std.specs.Prelude.{Bool, false, List, length, map, replicate}
use Rattle.fb_net.specs.BlockSpec.{BlockSpec}
use Rattle.fb_net.specs.declared.spec.Drive.{Drive}
use Rattle.fb_net.specs.Values.{NetBlock}

-- its blocks, its drives, and the values of its blocks in the last cycle
pub record NetView : Type 0 where
  pub blocks : List BlockSpec
  pub drives : List Drive
  pub values : List Bool

-- a net of which no cycle has run: all values are false
abbrev pub new_net : List BlockSpec → List Drive → NetView
new_net blocks drives = record { blocks = blocks; drives = drives; values = replicate (length blocks) false }

-- what a block was made as, whatever it keeps
abbrev pub net_block : BlockSpec → NetBlock
net_block b = record { kind = b.block.kind; n = b.block.n; ins = b.ins }

abbrev pub plan : List BlockSpec → List NetBlock
plan blocks = map net_block blocks
