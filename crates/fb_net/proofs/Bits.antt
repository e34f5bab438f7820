-- The bits of images in which bits are set, and so the output bits of a net.
use Rattle.fb_net.proofs.Common.{Bit, Drive, and_or_apart, and_or_self, at_number, bit_at, bit_of, bits_on, cases_Bool, cases_eq, common_steps, driven_images, get_or-set_other, get_or-set_same, get_or_past, has_bit, images_with, is_same_bit, length-set, list_any, pow_apart, set_past, wire_value, with_bit, with_on, zero_images}
use Rattle.std.proofs.Common.{Bool, List, [], ap, arith, bit_and, bit_or, cond, false, filter, fold, get_or, inl, inr, length, map, nat_lt, not, refl, replicate, rules, slice_index, slice_set, suc, sym, true, zero, ℕ, ◌%◌, ◌&&◌, ◌*◌, ◌/◌, ◌<◌, ◌==◌, ◌^◌, ◌||◌, ◌∙◌, ◌∷◌, ◌≡◌, ◌≢◌, ◌≤◌, ◌⊎◌}
use Rattle.std.proofs.lemmas.Bool.Decides.{nat_tests}
use Rattle.std.specs.Int.Bits.{and_zero_l}
use Rattle.std.proofs.Math.Seq.{map-set_same}

-- which of two numbers is less
within : (i n : ℕ) → (i < n) ⊎ (n ≤ i)
within i n = grind arith

-- a set bit leaves the others of its byte
same-byte : (bytes : List ℕ) (place a b : ℕ) → a ≢ b
    → bit_and (slice_index (slice_set bytes place (bit_or (slice_index bytes place) (2 ^ a))) place) (2 ^ b) ≡ bit_and (slice_index bytes place) (2 ^ b)
same-byte bytes place a b h =
    elim (within place (length bytes)) [
      | inl lt ↦ ap (λ x. bit_and x (2 ^ b)) (get_or-set_same bytes place (bit_or (slice_index bytes place) (2 ^ a)) 0 lt)
          ∙ and_or_apart (2 ^ b) (slice_index bytes place) (2 ^ a) (pow_apart a b h)
      | inr le ↦ ap (λ (xs : List ℕ). bit_and (slice_index xs place) (2 ^ b)) (set_past bytes place (bit_or (slice_index bytes place) (2 ^ a)) le)
    ]

bit-apart : (bytes : List ℕ) (a b : ℕ) → a ≢ b → bit_of (with_bit bytes a true) b ≡ bit_of bytes b
bit-apart bytes a b h = search (rules, same-byte)

-- another bit of many images
image-apart : (images : List (List ℕ)) (k j a b : ℕ) → (j ≡ k → a ≢ b)
    → bit_of (get_or (slice_set images k (with_bit (get_or images k []) a true)) j []) b ≡ bit_of (get_or images j []) b
image-apart images k j a b h =
    elim (cases_eq j k) [
      | inl e ↦ elim (within k (length images)) [
        | inl lt ↦
            ap (λ p. bit_of (get_or (slice_set images k (with_bit (get_or images k []) a true)) p []) b) e
            ∙ ap (λ (xs : List ℕ). bit_of xs b) (get_or-set_same images k (with_bit (get_or images k []) a true) [] lt)
            ∙ bit-apart (get_or images k []) a b (h e)
            ∙ ap (λ p. bit_of (get_or images p []) b) (sym e)
        | inr le ↦ ap (λ (xs : List (List ℕ)). bit_of (get_or xs j []) b) (set_past images k (with_bit (get_or images k []) a true) le)
      ]
      | inr ne ↦ ap (λ (xs : List ℕ). bit_of xs b) (get_or-set_other images k j (with_bit (get_or images k []) a true) [] ne)
    ]

-- a bit that is set leaves every other bit
other_bit : (images : List (List ℕ)) (d o : Bit) → is_same_bit d o ≡ false → bit_at (with_on images d.link d.bit) o ≡ bit_at images o
other_bit images d o h = search (rules, image-apart)

-- images of zeros have no bit set
replicate-zero : (n j : ℕ) → slice_index (replicate n 0) j ≡ 0
replicate-zero n j = grind (arith, common_steps)

pub no_bit : (bytes : List ℕ) (b : ℕ) → slice_index bytes (b / 8) ≡ 0 → bit_of bytes b ≡ false
no_bit bytes b h = ap (λ x. not (bit_and x (2 ^ (b % 8)) == 0)) h ∙ ap (λ x. not (x == 0)) (and_zero_l (2 ^ (b % 8)))

zero-image : (lens : List ℕ) (k b : ℕ) → bit_of (get_or (zero_images lens) k []) b ≡ false
zero-image [] k b = no_bit [] b refl
zero-image (n ∷ ns) zero b = no_bit (replicate n 0) b (replicate-zero n (b / 8))
zero-image (n ∷ ns) (suc k) b = zero-image ns k b

pub zero_bit : (lens : List ℕ) (o : Bit) → bit_at (zero_images lens) o ≡ false
zero_bit lens o = search (rules, zero-image)

-- the lengths
length_with_on : (images : List (List ℕ)) (l b : ℕ) → map length (with_on images l b) ≡ map length images
length_with_on images zero b = refl
length_with_on images (suc k) b =
    map-set_same (λ (xs : List ℕ). length xs) images k (with_bit (get_or images k []) b true) []
    (length-set (get_or images k []) (b / 8) _)

length-all : (images : List (List ℕ)) (bits : List Bit) → map length (fold (λ xs b. with_on xs b.link b.bit) images bits) ≡ map length images
length-all images [] = refl
length-all images (b ∷ bits) = length-all (with_on images b.link b.bit) bits ∙ length_with_on images b.link b.bit

length-replicate : (n : ℕ) → length {A = ℕ} (replicate n 0) ≡ n
length-replicate n = grind (arith, common_steps)

pub length_zeros : (lens : List ℕ) → map length (zero_images lens) ≡ lens
length_zeros [] = refl
length_zeros (n ∷ ns) = ap (λ k. k ∷ map length (zero_images ns)) (length-replicate n) ∙ ap (λ (ks : List ℕ). n ∷ ks) (length_zeros ns)

pub lengths_with : (lens : List ℕ) (bits : List Bit) → map length (images_with lens bits) ≡ lens
lengths_with lens bits = length-all (zero_images lens) bits ∙ length_zeros lens

-- a bit that is set is set
bit-set : (bytes : List ℕ) (b : ℕ) → b < 8 * length bytes → bit_of (with_bit bytes b true) b ≡ true
bit-set bytes b h = search (rules, and_or_self)

image-set : (images : List (List ℕ)) (k b : ℕ) → b < 8 * length (get_or images k [])
    → bit_of (get_or (slice_set images k (with_bit (get_or images k []) b true)) k []) b ≡ true
image-set images k b h =
    elim (within k (length images)) [
      | inl lt ↦ ap (λ (xs : List ℕ). bit_of xs b) (get_or-set_same images k (with_bit (get_or images k []) b true) [] lt) ∙ bit-set (get_or images k []) b h
      | inr le ↦
          let none : get_or images k [] ≡ [] = get_or_past images k [] le in
          let e : length (get_or images k []) ≡ 0 = ap (λ (xs : List ℕ). length xs) none in
          absurd (omega arith)
    ]

-- a bit exists by the lengths of the images
length-at : (images : List (List ℕ)) (k : ℕ) → get_or (map length images) k 0 ≡ length (get_or images k [])
length-at images k = grind (arith, common_steps)

length-number : (images : List (List ℕ)) (l : ℕ) → at_number (map length images) l 0 ≡ length (at_number images l [])
length-number images l = search (rules, length-at)

-- with or without one more drive whose wire reads true
set-more : (on : Bool) (images : List (List ℕ)) (d : Drive) (rest : List Drive) (o : Bit) (more : Bool)
    → has_bit (map length images) o ≡ true
    → ((xs : List (List ℕ)) → has_bit (map length xs) o ≡ true → bit_at (fold (λ ys b. with_on ys b.link b.bit) xs (map (λ x. x.out) rest)) o ≡ (bit_at xs o || more))
    → bit_at (fold (λ ys b. with_on ys b.link b.bit) images (map (λ x. x.out) (cond on (d ∷ rest) rest))) o ≡ (bit_at images o || ((is_same_bit d.out o && on) || more))
set-more on images d rest o more h k = search (rules, length_with_on, image-set, length-number, other_bit)

driven-bit : (ds : List Drive) (values : List Bool) (inputs : List (List ℕ)) (images : List (List ℕ)) (o : Bit) → has_bit (map length images) o ≡ true
    → bit_at (fold (λ ys b. with_on ys b.link b.bit) images (bits_on ds values inputs)) o ≡ (bit_at images o || list_any (λ d. is_same_bit d.out o && wire_value values inputs d.from) ds)
driven-bit [] values inputs images o h = grind arith
driven-bit (d ∷ ds) values inputs images o h =
    set-more (wire_value values inputs d.from) images d (filter (λ x. wire_value values inputs x.from) ds) o
    (list_any (λ x. is_same_bit x.out o && wire_value values inputs x.from) ds) h (λ xs g. driven-bit ds values inputs xs o g)

pub driven_bit : (ds : List Drive) (values : List Bool) (inputs : List (List ℕ)) (lens : List ℕ) (o : Bit) → has_bit lens o ≡ true
    → bit_at (driven_images ds values inputs lens) o ≡ list_any (λ d. is_same_bit d.out o && wire_value values inputs d.from) ds
driven_bit ds values inputs lens o h = search (rules, driven-bit, length_zeros, zero_bit)

-- a bit that no drive sets is 0, also where there is no such bit
past-byte : (bytes : List ℕ) (b : ℕ) → nat_lt b (8 * length bytes) ≡ false → length bytes ≤ b / 8
past-byte bytes b h = grind (arith, nat_tests)

past-bit : (images : List (List ℕ)) (o : Bit) → has_bit (map length images) o ≡ false → bit_at images o ≡ false
past-bit images o h =
    let bytes : List ℕ = at_number images o.link [] in
    no_bit bytes o.bit (get_or_past bytes (o.bit / 8) 0 (past-byte bytes o.bit (rw (length-number images o.link) at h)))

pub off_driven : (ds : List Drive) (values : List Bool) (inputs : List (List ℕ)) (lens : List ℕ) (o : Bit)
    → list_any (λ d. is_same_bit d.out o && wire_value values inputs d.from) ds ≡ false → bit_at (driven_images ds values inputs lens) o ≡ false
off_driven ds values inputs lens o none =
    elim (cases_Bool (has_bit lens o)) [
      | inl there ↦ driven_bit ds values inputs lens o there ∙ none
      | inr past ↦ past-bit (driven_images ds values inputs lens) o (rw (lengths_with lens (bits_on ds values inputs)) past)
    ]
