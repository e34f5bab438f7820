-- The outputs of a net: each driven bit is what its wire reads, and every other bit is 0.
use Rattle.std.specs.Prelude.{ℕ, zero, suc, Bool, true, List, [], ◌∷◌, map, fold, filter, replicate, get_or, slice_set}
use Rattle.fsoe_base.specs.Image.{with_bit}
use Rattle.failsafe_io.specs.declared.bit.Bit.{Bit}
use Rattle.fb_net.specs.declared.spec.Drive.{Drive}
use Rattle.fb_net.specs.NetView.{NetView, plan}
use Rattle.fb_net.specs.Values.{NetCycle, block_values, wire_value}

-- the output bits whose wires read true, by the values of the blocks and the inputs
abbrev pub bits_on : List Drive → List Bool → List (List ℕ) → List Bit
bits_on drives values inputs = map (λ d. d.out) (filter (λ d. wire_value values inputs d.from) drives)

-- images with a bit set; where there is no such bit, nothing is
abbrev pub with_on : List (List ℕ) → ℕ → ℕ → List (List ℕ)
with_on images zero bit = images
with_on images (suc k) bit = slice_set images k (with_bit (get_or images k []) bit true)

-- images of zeros, of these lengths
abbrev pub zero_images : List ℕ → List (List ℕ)
zero_images lens = map (λ l. replicate l 0) lens

-- images of these lengths in which these bits are set and no other
abbrev pub images_with : List ℕ → List Bit → List (List ℕ)
images_with lens bits = fold (λ images b. with_on images b.link b.bit) (zero_images lens) bits

-- the outputs of a cycle
abbrev pub driven_images : List Drive → List Bool → List (List ℕ) → List ℕ → List (List ℕ)
driven_images drives values inputs lens = images_with lens (bits_on drives values inputs)

-- the outputs of a net, of these lengths, in the newest of its cycles, by looking back over them all; zeros before the
-- first
abbrev pub net_outputs : NetView → List NetCycle → List ℕ → List (List ℕ)
net_outputs v [] lens = zero_images lens
net_outputs v (c ∷ e) lens = driven_images v.drives (block_values (plan v.blocks) (c ∷ e)) c.inputs lens
