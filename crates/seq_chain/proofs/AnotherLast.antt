-- A frame after another CRC_0 that was taken last.
use Rattle.seq_chain.proofs.Common.{Frame, Link, SteppedAlikeAfter, cover, crc_0, first_of, fits, step_in_last, xor_comm, xor_lt}
use Rattle.fsoe_crc.specs.Remainder.{computing, rem}
use Rattle.std.proofs.Common.{◌≡◌, ◌≢◌, ℕ, ◌<◌, List, [], ◌∷◌, length, bit_xor, false, Option, Some, None, IsTrue, refl, sym, ap, ◌∙◌, lit<, rules}
use Rattle.seq_chain.proofs.ToldApart.{last_told, first_alike, first_group, word_told}
use Rattle.seq_chain.proofs.OneChange.{unlike_refused}
use Rattle.seq_chain.proofs.Misplaced.{cancel}

-- under one number the CRC_0 after two differ
one_number : (last last' conn n cmd : ℕ) (load : List ℕ) → last < 65536 → last' < 65536 → last ≢ last' → 0 < length load → crc_0 last conn n cmd load ≢ crc_0 last' conn n cmd load
one_number last last' conn n cmd load h h' other some e =
    last_told last last' conn n cmd 0 (first_group load) h h' other (first_alike last last' conn conn n n cmd cmd load some e)

pub another_refused : (last last' : ℕ) (before : Option Link) (f : Frame) → last < 65536 → last' < 65536 → last ≢ last' → 0 < length f.load → SteppedAlikeAfter last last' before f
    → IsTrue (fits last before f) → fits last' before f ≡ false
another_refused last last' before f h h' other some steps right =
    unlike_refused last last' before f f right steps refl (λ n e. one_number last last' f.conn n f.cmd f.load h h' other some (ap first_of e))

-- at the first frame there is no second step
pub first_refused : (last last' : ℕ) (f : Frame) → last < 65536 → last' < 65536 → last ≢ last' → 0 < length f.load → IsTrue (fits last None f) → fits last' None f ≡ false
first_refused last last' f h h' other some right = another_refused last last' None f h h' other some refl right

pub step_is_nothing : rem (0xB6 ∷ 0x72 ∷ 0 ∷ 0 ∷ 1 ∷ 0 ∷ []) ≡ 0
unfolding computing
step_is_nothing = refl

-- where a CRC is the same under the numbers 2 and 3, the CRC_0 taken last differ by the step
differ_by_step : (last last' conn cmd i : ℕ) (group : List ℕ) → last < 65536 → last' < 65536 → rem (cover last conn 2 cmd i group) ≡ rem (cover last' conn 3 cmd i group) → bit_xor last last' ≡ step_in_last
differ_by_step last last' conn cmd i group h h' e =
    word_told [] (0 ∷ 0 ∷ 1 ∷ 0 ∷ []) (bit_xor last last') step_in_last (xor_lt 16 last last' h h') (lit< tt) (cancel last last' conn 2 3 cmd i group e ∙ sym step_is_nothing)

-- the numbers 2 and 3 give a frame different CRC_0 too, unless the CRC_0 taken last differ by the step
stepped_once : (last last' conn cmd : ℕ) (load : List ℕ) → last < 65536 → last' < 65536 → 0 < length load → bit_xor last last' ≢ step_in_last → crc_0 last conn 2 cmd load ≢ crc_0 last' conn 3 cmd load
stepped_once last last' conn cmd load h h' some by e =
    by (differ_by_step last last' conn cmd 0 (first_group load) h h' (first_alike last last' conn conn 2 3 cmd cmd load some e))

pub second_refused : (last last' crc : ℕ) (f : Frame) → last < 65536 → last' < 65536 → last ≢ last' → bit_xor last last' ≢ step_in_last → 0 < length f.load
    → IsTrue (fits last (Some (record { number = 1; crc = crc })) f) → fits last' (Some (record { number = 1; crc = crc })) f ≡ false
second_refused last last' crc f h k l m n o = search (rules, one_number, stepped_once, xor_comm)
