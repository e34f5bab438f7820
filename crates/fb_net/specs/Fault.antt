-- The first reason for which a net isn't made: the blocks in their order, each first by its number of inputs and then
-- wire by wire; then the drives in their order, each by its bit (that there is one, that no earlier drive sets it) and
-- then by its wire.
use Rattle.std.specs.Prelude.{ℕ, ◌+◌, nat_le, not, ◌&&◌, List, [], ◌∷◌, ◌++◌, length, Option, Some, None, if◌then◌else◌}
use Rattle.std.specs.List.{list_any}
use Rattle.std.specs.Option.{option_or}
use Rattle.failsafe_io.specs.Bits.{has_bit, is_same_bit}
use Rattle.fb_lib.specs.Kind.{takes_inputs}
use Rattle.fb_net.specs.declared.fault.NetFault.{NetFault}
use Rattle.fb_net.specs.declared.fault.NetFault.TheVariants as net_fault
use Rattle.fb_net.specs.BlockSpec.{BlockSpec}
use Rattle.fb_net.specs.declared.spec.Drive.{Drive}
use Rattle.fb_net.specs.declared.wire.Wire.{Wire}
use Rattle.fb_net.specs.declared.wire.Wire.TheVariants as wire

-- what is wrong with a wire of the block with this number: it reads a bit that no input image has, or a block that
-- isn't among those before
abbrev pub wire_fault : List ℕ → ℕ → ℕ → Wire → Option NetFault
wire_fault ins before number (wire.Input bit) = if has_bit ins bit then None else Some (net_fault.NoInput bit)
wire_fault ins before number (wire.Block k) = if nat_le 1 k && nat_le k before then None else Some (net_fault.Later number)

abbrev pub wires_fault : List ℕ → ℕ → ℕ → List Wire → Option NetFault
wires_fault ins before number [] = None
wires_fault ins before number (w ∷ ws) = option_or (wire_fault ins before number w) (wires_fault ins before number ws)

-- the first fault of a block with so many before it: its number of inputs, or else of its wires
abbrev pub block_fault : List ℕ → ℕ → BlockSpec → Option NetFault
block_fault ins before b =
    if takes_inputs b.block.kind (length b.ins) then wires_fault ins before (before + 1) b.ins else Some (net_fault.Arity (before + 1))

abbrev pub blocks_fault : List ℕ → ℕ → List BlockSpec → Option NetFault
blocks_fault ins before [] = None
blocks_fault ins before (b ∷ bs) = option_or (block_fault ins before b) (blocks_fault ins (before + 1) bs)

-- the first fault of a drive after these ones: no image has its bit, an earlier drive sets it, or else of its wire,
-- which counts as a wire of block 0 and may read any of so many blocks
abbrev pub drive_fault : List ℕ → List ℕ → ℕ → List Drive → Drive → Option NetFault
drive_fault ins outs count earlier d =
    if not (has_bit outs d.out)
    then Some (net_fault.NoOutput d.out)
    else (if list_any (λ x. is_same_bit x.out d.out) earlier then Some (net_fault.Twice d.out) else wire_fault ins count 0 d.from)

abbrev pub drives_fault : List ℕ → List ℕ → ℕ → List Drive → List Drive → Option NetFault
drives_fault ins outs count earlier [] = None
drives_fault ins outs count earlier (d ∷ ds) =
    option_or (drive_fault ins outs count earlier d) (drives_fault ins outs count (earlier ++ d ∷ []) ds)

-- the first fault of a net with input and output images of these lengths
abbrev pub first_fault : List ℕ → List ℕ → List BlockSpec → List Drive → Option NetFault
first_fault ins outs blocks drives = option_or (blocks_fault ins 0 blocks) (drives_fault ins outs (length blocks) [] drives)
