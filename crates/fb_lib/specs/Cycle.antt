-- What a block is stepped with.
use Rattle.std.specs.Prelude.{Bool, false, List, get_or}

-- one cycle: whether it is ticked, and the block's inputs in their order
pub record Cycle : Type 0 where
  pub ticked : Bool
  pub ins : List Bool

-- the inputs of a block that has one or two, false where there is none
abbrev pub first : Cycle → Bool
first c = get_or c.ins 0 false

abbrev pub second : Cycle → Bool
second c = get_or c.ins 1 false
