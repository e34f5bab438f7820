-- Inputs as outputs, made one by one.
use Rattle.fb_net.proofs.Common.{Bit, bit_at, bit_of, common_steps, is_same_bit, mirror_images, mirrored}
use Rattle.std.proofs.Common.{◌≡◌, ◌⊎◌, ℕ, zero, suc, ◌+◌, ◌<◌, false, true, List, [], ◌∷◌, ◌++◌, length, get_or, map, take, drop, slice_index, set, refl, ap₂, arith, rules}
use Rattle.fb_net.proofs.Bits.{no_bit}

length-mirrored : (xs : List ℕ) (n : ℕ) → length (mirrored xs n) ≡ n
length-mirrored xs n = grind (arith, common_steps)

pub mirror_step : (inputs outputs : List (List ℕ)) (i : ℕ) (old new : List ℕ) (all : List (List ℕ)) → i < length outputs → old ≡ get_or outputs i old
    → new ≡ mirrored (get_or inputs i []) (length old)
    → take i outputs ++ mirror_images (drop i inputs) (map length (drop i outputs)) ≡ all
    → take (i + 1) (set outputs i new) ++ mirror_images (drop (i + 1) inputs) (map length (drop (i + 1) (set outputs i new))) ≡ all
mirror_step inputs outputs i old new all h k l m = grind (arith, common_steps)

pub lengths_mirrored : (inputs : List (List ℕ)) (ns : List ℕ) → map length (mirror_images inputs ns) ≡ ns
lengths_mirrored inputs [] = refl
lengths_mirrored inputs (n ∷ ns) = ap₂ (λ (k : ℕ) (ks : List ℕ). k ∷ ks) (length-mirrored (get_or inputs 0 []) n) (lengths_mirrored (drop 1 inputs) ns)

-- a byte of a mirrored image is that of the input, or 0
mirrored-at : (xs : List ℕ) (n j : ℕ) → (slice_index (mirrored xs n) j ≡ slice_index xs j) ⊎ (slice_index (mirrored xs n) j ≡ 0)
mirrored-at xs n j = grind (arith, common_steps)

mirrored-bit : (xs : List ℕ) (n b : ℕ) → bit_of xs b ≡ false → bit_of (mirrored xs n) b ≡ false
mirrored-bit xs n b h = search (rules, mirrored-at)

rest-at : (inputs : List (List ℕ)) (k : ℕ) → get_or (drop 1 inputs) k [] ≡ get_or inputs (suc k) []
rest-at [] k = refl
rest-at (x ∷ inputs) k = refl

images-bit : (inputs : List (List ℕ)) (ns : List ℕ) (k b : ℕ) → bit_of (get_or inputs k []) b ≡ false → bit_of (get_or (mirror_images inputs ns) k []) b ≡ false
images-bit inputs [] k b h = no_bit [] b refl
images-bit inputs (n ∷ ns) zero b h = mirrored-bit (get_or inputs 0 []) n b h
images-bit inputs (n ∷ ns) (suc k) b h = images-bit (drop 1 inputs) ns k b (rw (rest-at inputs k) h)

-- a mirror guards by the same bit
pub mirror_guards : (inputs : List (List ℕ)) (ns : List ℕ) (o i : Bit) → is_same_bit o i ≡ true → bit_at inputs i ≡ false → bit_at (mirror_images inputs ns) o ≡ false
mirror_guards inputs ns o i h k = search (rules, images-bit)
