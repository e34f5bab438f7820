-- What the CRC of the first group says of turned bits of the connection id, the command and the data.
use Rattle.seq_chain.proofs.Common.{common, cover, low_high, rem, rem-xored, turned_bits, weight, xor_lt, xor_mod, xor_self, xor_shr}
use Rattle.fsoe_crc.specs.Remainder.{computing}
use Rattle.fsoe_crc.proofs.Weight.{crc_at}
use Rattle.fsoe_crc.proofs.Linear.{xored}
use Rattle.std.proofs.Common.{◌≡◌, ◌≢◌, ℕ, ◌+◌, ◌*◌, ◌/◌, ◌%◌, ◌<◌, ◌≤◌, List, [], ◌∷◌, ◌++◌, length, bit_xor, count_ones, true, refl, sym, ◌∙◌, arith}
use Rattle.std.specs.Int.Count.{ones_cat}
use Rattle.fsoe_crc.proofs.Xor.{xor_zero_eq}
use Rattle.fsoe_crc.proofs.Far.{ones_below, columns, far, all_far}

pair_computed : all_far (columns (crc_at (24 ∷ 32 ∷ 40 ∷ 40 ∷ 16 ∷ 8 ∷ 0 ∷ 40 ∷ 40 ∷ 40 ∷ [])) 40) 3 ≡ true
unfolding all_far far ones_below columns crc_at computing
pair_computed = refl

pair_four : (conn cmd d b : ℕ) → conn < 65536 → cmd < 256 → d < 256 → b < 256 → (conn ≡ 0 → cmd ≢ 0)
    → 4 ≤ count_ones conn + count_ones cmd + count_ones d + count_ones b + count_ones (rem (conn % 256 ∷ conn / 256 ∷ 0 ∷ 0 ∷ cmd ∷ d ∷ b ∷ 0 ∷ 0 ∷ 0 ∷ []))
pair_four conn cmd d b hconn hcmd hd hb some =
    let m : ℕ = ((conn * 256 + cmd) * 256 + d) * 256 + b in
    let four = weight _ (conn % 256 ∷ conn / 256 ∷ 0 ∷ 0 ∷ cmd ∷ d ∷ b ∷ 0 ∷ 0 ∷ 0 ∷ []) 40 3 m pair_computed (omega arith) (λ e. some (omega arith) (omega arith)) (grind arith) in
    omega (arith, four, ones_cat 8 ((conn * 256 + cmd) * 256 + d) b hb, ones_cat 8 (conn * 256 + cmd) d hd, ones_cat 8 conn cmd hcmd)

one_computed : all_far (columns (crc_at (16 ∷ 24 ∷ 32 ∷ 32 ∷ 8 ∷ 0 ∷ 32 ∷ 32 ∷ 32 ∷ [])) 32) 3 ≡ true
unfolding all_far far ones_below columns crc_at computing
one_computed = refl

one_four : (conn cmd d : ℕ) → conn < 65536 → cmd < 256 → d < 256 → (conn ≡ 0 → cmd ≢ 0)
    → 4 ≤ count_ones conn + count_ones cmd + count_ones d + count_ones (rem (conn % 256 ∷ conn / 256 ∷ 0 ∷ 0 ∷ cmd ∷ d ∷ 0 ∷ 0 ∷ 0 ∷ []))
one_four conn cmd d hconn hcmd hd some =
    let m : ℕ = (conn * 256 + cmd) * 256 + d in
    let four = weight _ (conn % 256 ∷ conn / 256 ∷ 0 ∷ 0 ∷ cmd ∷ d ∷ 0 ∷ 0 ∷ 0 ∷ []) 32 3 m one_computed (omega arith) (λ e. some (omega arith) (omega arith)) (grind arith) in
    omega (arith, four, ones_cat 8 (conn * 256 + cmd) d hd, ones_cat 8 conn cmd hcmd)

-- what the CRCs of two frames after one CRC_0 taken last differ by, where the rest of their covers has one length
pub covers_xored : (last conn conn' n n' cmd cmd' : ℕ) (rest rest' : List ℕ) → length rest ≡ length rest'
    → bit_xor (rem (common last conn n cmd ++ rest)) (rem (common last conn' n' cmd' ++ rest')) ≡ rem (low_high (bit_xor conn conn') ++ low_high (bit_xor n n') ++ bit_xor cmd cmd' ∷ xored rest rest')
covers_xored last conn conn' n n' cmd cmd' rest rest' same =
    rem-xored (low_high last) (low_high conn ++ low_high n ++ cmd ∷ rest) (low_high conn' ++ low_high n' ++ cmd' ∷ rest') (omega arith)
    ∙ (λ i. rem (sym (xor_mod conn conn' 8) i ∷ sym (xor_shr conn conn' 8) i ∷ sym (xor_mod n n' 8) i ∷ sym (xor_shr n n' 8) i ∷ bit_xor cmd cmd' ∷ xored rest rest'))

pub pair_turned : (last conn conn' n cmd cmd' d b d' b' : ℕ) → conn < 65536 → conn' < 65536 → cmd < 256 → cmd' < 256 → d < 256 → b < 256 → d' < 256 → b' < 256 → (conn ≡ conn' → cmd ≢ cmd')
    → 4 ≤ turned_bits conn conn' + turned_bits cmd cmd' + turned_bits d d' + turned_bits b b' + turned_bits (rem (cover last conn n cmd 0 (d ∷ b ∷ []))) (rem (cover last conn' n cmd' 0 (d' ∷ b' ∷ [])))
pair_turned last conn conn' n cmd cmd' d b d' b' hconn hconn' hcmd hcmd' hd hb hd' hb' other =
    rw (covers_xored last conn conn' n n cmd cmd' (d ∷ b ∷ 0 ∷ 0 ∷ 0 ∷ []) (d' ∷ b' ∷ 0 ∷ 0 ∷ 0 ∷ []) refl, xor_self n)
    (pair_four (bit_xor conn conn') (bit_xor cmd cmd') (bit_xor d d') (bit_xor b b') (xor_lt 16 conn conn' hconn hconn') (xor_lt 8 cmd cmd' hcmd hcmd')
    (xor_lt 8 d d' hd hd') (xor_lt 8 b b' hb hb') (λ e f. other (xor_zero_eq conn conn' e) (xor_zero_eq cmd cmd' f)))

pub one_turned : (last conn conn' n cmd cmd' d d' : ℕ) → conn < 65536 → conn' < 65536 → cmd < 256 → cmd' < 256 → d < 256 → d' < 256 → (conn ≡ conn' → cmd ≢ cmd')
    → 4 ≤ turned_bits conn conn' + turned_bits cmd cmd' + turned_bits d d' + turned_bits (rem (cover last conn n cmd 0 (d ∷ []))) (rem (cover last conn' n cmd' 0 (d' ∷ [])))
one_turned last conn conn' n cmd cmd' d d' hconn hconn' hcmd hcmd' hd hd' other =
    rw (covers_xored last conn conn' n n cmd cmd' (d ∷ 0 ∷ 0 ∷ 0 ∷ []) (d' ∷ 0 ∷ 0 ∷ 0 ∷ []) refl, xor_self n)
    (one_four (bit_xor conn conn') (bit_xor cmd cmd') (bit_xor d d')
    (xor_lt 16 conn conn' hconn hconn') (xor_lt 8 cmd cmd' hcmd hcmd') (xor_lt 8 d d' hd hd') (λ e f. other (xor_zero_eq conn conn' e) (xor_zero_eq cmd cmd' f)))
