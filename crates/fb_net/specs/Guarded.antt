-- Which output bits of a net are guarded by which input bits, by cases on the blocks. A guarded bit is 0 whenever its
-- input bit is; not every such bit is guarded.
use Rattle.std.specs.Prelude.{Bool, false, not, ◌||◌, List, [], ◌∷◌, ◌++◌, map}
use Rattle.std.specs.List.{list_all}
use Rattle.failsafe_io.specs.declared.bit.Bit.{Bit}
use Rattle.failsafe_io.specs.Bits.{at_number, is_same_bit}
use Rattle.fb_lib.specs.Guarded.{is_guarded}
use Rattle.fb_net.specs.declared.wire.Wire.{Wire}
use Rattle.fb_net.specs.declared.wire.Wire.TheVariants as wire
use Rattle.fb_net.specs.declared.spec.Drive.{Drive}
use Rattle.fb_net.specs.Values.{NetBlock}

-- a wire is guarded by an input bit where it reads that bit, or a guarded block, as listed for the blocks in their
-- order
abbrev pub is_wire_guarded : Bit → List Bool → Wire → Bool
is_wire_guarded i guarded (wire.Input bit) = is_same_bit bit i
is_wire_guarded i guarded (wire.Block k) = at_number guarded k false

-- which blocks are guarded, by their kinds and wires, after those listed
abbrev pub guarded_from : Bit → List Bool → List NetBlock → List Bool
guarded_from i guarded [] = guarded
guarded_from i guarded (p ∷ ps) =
    guarded_from i (guarded ++ is_guarded p.kind (map (is_wire_guarded i guarded) p.ins) ∷ []) ps

abbrev pub guarded_blocks : Bit → List NetBlock → List Bool
guarded_blocks i plan = guarded_from i [] plan

-- an output bit is guarded where it isn't driven, or where its wire is guarded
abbrev pub is_output_guarded : List NetBlock → List Drive → Bit → Bit → Bool
is_output_guarded plan drives o i =
    list_all (λ d. not (is_same_bit d.out o) || is_wire_guarded i (guarded_blocks i plan) d.from) drives
