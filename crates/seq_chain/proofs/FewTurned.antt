-- A frame that differs in few bits from a frame that fits.
use Rattle.seq_chain.proofs.Common.{AreBytes, DifferInGroups, Frame, Link, SteppedAlike, byte_turned, cases_eq, common, covered, crcs, crcs_from, fits, groups, pair_turned, place, rem, turned_bits, turned_in_frames, turned_within}
use Rattle.std.proofs.Common.{◌≡◌, ◌≢◌, ℕ, suc, ◌+◌, ◌<◌, ◌≤◌, inl, inr, List, [], ◌∷◌, ◌++◌, length, Option, false, IsTrue, refl, ap, arith, rules}
use Rattle.seq_chain.proofs.ToldApart.{zeros_last}
use Rattle.seq_chain.proofs.FirstTurned.{pair_turned as first_pair, one_turned}

byte_apart : (first : List ℕ) (i d d' : ℕ) → d < 256 → d' < 256 → d ≢ d' → 6 ≤ turned_bits d d' + turned_bits (rem (covered first i (d ∷ []))) (rem (covered first i (d' ∷ [])))
byte_apart first i d d' h h' other = rw (zeros_last first i (d ∷ []), zeros_last first i (d' ∷ [])) (byte_turned (first ++ place i) d d' h h' other)

pair_apart : (first : List ℕ) (i d b d' b' : ℕ) → d < 256 → b < 256 → d' < 256 → b' < 256 → (d ≡ d' → b ≢ b')
    → 6 ≤ turned_bits d d' + turned_bits b b' + turned_bits (rem (covered first i (d ∷ b ∷ []))) (rem (covered first i (d' ∷ b' ∷ [])))
pair_apart first i d b d' b' h k l m n = search (rules, zeros_last, pair_turned)

-- different loads and their CRCs differ in at least six bits: those of a group that differs
loads_apart : (last conn n cmd i : ℕ) (load load' : List ℕ) → length load ≡ length load' → AreBytes load → AreBytes load' → load ≢ load'
    → 6 ≤ turned_within load load' + turned_within (crcs_from last conn n cmd i (groups load)) (crcs_from last conn n cmd i (groups load'))
loads_apart last conn n cmd i [] [] same h h' other = absurd (other refl)
loads_apart last conn n cmd i (d ∷ []) (d' ∷ []) same h h' other = omega (arith, byte_apart (common last conn n cmd) i d d' (h 0) (h' 0) (λ e. other (ap (λ x. x ∷ []) e)))
loads_apart last conn n cmd i (d ∷ b ∷ load) (d' ∷ b' ∷ load') same h h' other =
    elim (cases_eq d d') [
      | inr differ ↦ here (λ e. absurd (differ e))
      | inl first ↦ elim (cases_eq b b') [
        | inr differ ↦ here (λ _. differ)
        | inl second ↦
            let later : load ≢ load' = λ e. other (cc) in
            omega (arith, loads_apart last conn n cmd (suc i) load load' (omega arith) (λ j. h (suc (suc j))) (λ j. h' (suc (suc j))) later)
      ]
    ]
  where
    here : (d ≡ d' → b ≢ b') → 6 ≤ turned_within (d ∷ b ∷ load) (d' ∷ b' ∷ load') + turned_within (crcs_from last conn n cmd i (groups (d ∷ b ∷ load))) (crcs_from last conn n cmd i (groups (d' ∷ b' ∷ load')))
    here differ = omega (arith, pair_apart (common last conn n cmd) i d b d' b' (h 0) (h 1) (h' 0) (h' 1) differ)
loads_apart last conn n cmd i load load' same h h' other = absurd (omega arith)

pub groups_refused : (last : ℕ) (before : Option Link) (f g : Frame) → AreBytes f.load → AreBytes g.load → IsTrue (fits last before f) → DifferInGroups f g → SteppedAlike last before f g
    → turned_in_frames f g < 6 → fits last before g ≡ false
groups_refused last before f g h k l m n o = search (rules, loads_apart)

-- where the connection id or the command differs, at least four bits do: of these, of the first group and of its CRC
first_apart : (last conn conn' n cmd cmd' : ℕ) (load load' : List ℕ) → conn < 65536 → conn' < 65536 → cmd < 256 → cmd' < 256 → 0 < length load → length load ≡ length load' → AreBytes load → AreBytes load' → (conn ≡ conn' → cmd ≢ cmd')
    → 4 ≤ turned_bits conn conn' + turned_bits cmd cmd' + turned_within load load' + turned_within (crcs last conn n cmd load) (crcs last conn' n cmd' load')
first_apart last conn conn' n cmd cmd' (d ∷ []) (d' ∷ []) hconn hconn' hcmd hcmd' some same h h' other =
    omega (arith, one_turned last conn conn' n cmd cmd' d d' hconn hconn' hcmd hcmd' (h 0) (h' 0) other)
first_apart last conn conn' n cmd cmd' (d ∷ b ∷ load) (d' ∷ b' ∷ load') hconn hconn' hcmd hcmd' some same h h' other =
    omega (arith, first_pair last conn conn' n cmd cmd' d b d' b' hconn hconn' hcmd hcmd' (h 0) (h 1) (h' 0) (h' 1) other)
first_apart last conn conn' n cmd cmd' load load' hconn hconn' hcmd hcmd' some same h h' other = absurd (omega arith)

pub first_refused : (last : ℕ) (before : Option Link) (f g : Frame) → f.cmd < 256 → g.cmd < 256 → f.conn < 65536 → g.conn < 65536 → 0 < length f.load → length f.load ≡ length g.load → AreBytes f.load → AreBytes g.load
    → IsTrue (fits last before f) → SteppedAlike last before f g → (f.conn ≡ g.conn → f.cmd ≢ g.cmd) → turned_in_frames f g < 4 → fits last before g ≡ false
first_refused last before f g h k l m n o p q r s t u = search (rules, first_apart)
