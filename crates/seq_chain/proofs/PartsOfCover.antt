-- What the parts of a later group's cover decide of its CRC, each by itself.
use Rattle.seq_chain.proofs.Common.{covered, place, rem, xor_assoc}
use Rattle.std.proofs.Common.{◌≡◌, ℕ, zero, suc, ◌<◌, List, [], ◌∷◌, ◌++◌, bit_xor, replicate, append_assoc, sym, ap, ◌∙◌, arith}
use Rattle.fsoe_crc.proofs.TwoParts.{rem-two_parts}

-- the cover is the first part, and then the place and the pair
in_parts : (first : List ℕ) (i a b : ℕ) → covered first i (a ∷ b ∷ []) ≡ first ++ (place i ++ a ∷ b ∷ 0 ∷ 0 ∷ 0 ∷ [])
in_parts first i a b = append_assoc (first ++ place i) (a ∷ b ∷ []) (0 ∷ 0 ∷ 0 ∷ []) ∙ append_assoc first (place i) (a ∷ b ∷ 0 ∷ 0 ∷ 0 ∷ [])

pub rem-three_parts : (first : List ℕ) (i a b : ℕ) → 0 < i
    → bit_xor (bit_xor (rem (first ++ replicate 7 0)) (rem (place i ++ replicate 5 0))) (rem (a ∷ b ∷ 0 ∷ 0 ∷ 0 ∷ [])) ≡ rem (covered first i (a ∷ b ∷ []))
rem-three_parts first zero a b later = absurd (omega arith)
rem-three_parts first (suc i) a b later =
    let pair : List ℕ = a ∷ b ∷ 0 ∷ 0 ∷ 0 ∷ [] in
    xor_assoc (rem (first ++ replicate 7 0)) (rem (place (suc i) ++ replicate 5 0)) (rem pair)
    ∙ ap (bit_xor (rem (first ++ replicate 7 0))) (sym (rem-two_parts (place (suc i)) pair))
    ∙ sym (rem-two_parts first (place (suc i) ++ pair))
    ∙ ap rem (sym (in_parts first (suc i) a b))
