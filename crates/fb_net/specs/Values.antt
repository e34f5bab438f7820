-- The values of the blocks of a net, by looking back over its cycles, newest first.
use Rattle.std.specs.Prelude.{ℕ, Bool, false, List, [], ◌∷◌, ◌++◌, length, map, replicate}
use Rattle.failsafe_io.specs.Bits.{at_number, bit_at}
use Rattle.fb_lib.specs.declared.kind.BlockKind.{BlockKind}
use Rattle.fb_lib.specs.Cycle.{Cycle}
use Rattle.fb_lib.specs.Value.{value}
use Rattle.fb_net.specs.declared.wire.Wire.{Wire}
use Rattle.fb_net.specs.declared.wire.Wire.TheVariants as wire

-- one cycle of a net: whether it is ticked, and the input images
pub record NetCycle : Type 0 where
  pub ticked : Bool
  pub inputs : List (List ℕ)

-- a block of a net: its kind and number, and the wires of its inputs
pub record NetBlock : Type 0 where
  pub kind : BlockKind
  pub n : ℕ
  pub ins : List Wire

-- what a wire reads in a cycle: a bit of the inputs, or the value of a block; a block that isn't listed reads false
abbrev pub wire_value : List Bool → List (List ℕ) → Wire → Bool
wire_value values inputs (wire.Input bit) = bit_at inputs bit
wire_value values inputs (wire.Block k) = at_number values k false

-- the cycles of a block, where `before` gives the values of the blocks before it: its inputs are what its wires read
abbrev pub block_cycles : (List NetCycle → List Bool) → List Wire → List NetCycle → List Cycle
block_cycles before ins [] = []
block_cycles before ins (c ∷ e) =
    record { ticked = c.ticked; ins = map (wire_value (before (c ∷ e)) c.inputs) ins } ∷ block_cycles before ins e

-- the values in the newest cycle of the blocks before, and of this one
abbrev pub with_block : (List NetCycle → List Bool) → NetBlock → List NetCycle → List Bool
with_block before p e = before e ++ value p.kind p.n (block_cycles before p.ins e) ∷ []

abbrev pub values_from : (List NetCycle → List Bool) → List NetBlock → List NetCycle → List Bool
values_from before [] e = before e
values_from before (p ∷ ps) e = values_from (with_block before p) ps e

-- the values of all blocks in the newest cycle, in their order
abbrev pub block_values : List NetBlock → List NetCycle → List Bool
block_values plan e = values_from (λ _. []) plan e

-- the values of all blocks in the newest cycle, and false before the first
abbrev pub shown_values : List NetBlock → List NetCycle → List Bool
shown_values plan [] = replicate (length plan) false
shown_values plan (c ∷ e) = block_values plan (c ∷ e)
