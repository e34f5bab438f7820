-- A frame that an end seals is read back as it was made.
use Rattle.end_model.proofs.Common.{Command, Deed, Frame, Setup, bytes_of, command_byte, crcs_from, frame_layout, frame_of, group_count, is_length, newest_crc, own_link, receives, seal, sends, taken}
use Rattle.std.proofs.Common.{◌≡◌, ℕ, suc, ◌+◌, ◌/◌, List, [], ◌∷◌, length, IsTrue, refl, sym, ap, subst, ◌∙◌, arith}
use Rattle.fsoe_frame.specs.Layout.{groups}
use Rattle.seq_chain.specs.Sealing as sealing

-- an end sends a valid number of safe data bytes
pub valid_length : (s : Setup) → IsTrue (is_length (sends s))
valid_length s = grind arith

-- there are as many CRCs as groups
pub count_crcs : (last conn seq cmd i : ℕ) (gs : List (List ℕ)) → length (crcs_from last conn seq cmd i gs) ≡ length gs
count_crcs last conn seq cmd i [] = refl
count_crcs last conn seq cmd i (g ∷ gs) = ap suc (count_crcs last conn seq cmd (suc i) gs)

pub count_groups : (load : List ℕ) → length (groups load) ≡ (length load + 1) / 2
count_groups (d ∷ d' ∷ load) = let e = count_groups load in omega arith
count_groups _ = refl

pub halves : (l : ℕ) → IsTrue (is_length l) → (l + 1) / 2 ≡ group_count l
halves l h = grind arith

-- a frame with as many CRCs as its load has groups
pub parts_made : (f : Frame) → IsTrue (is_length (length f.load)) → length f.crcs ≡ group_count (length f.load) → frame_of (length f.load) (bytes_of f) ≡ f
parts_made f h k = frame_layout f.cmd f.conn f.load f.crcs h k

pub read_back : (s : Setup) (e : List Deed) (conn : ℕ) (c : Command) (load : List ℕ) → length load ≡ sends s
    → frame_of (sends s) (seal s e conn c load) ≡ sealing.sealed (newest_crc (receives s) (taken e)) (own_link s e) conn (command_byte c) load
read_back s e conn c load h =
    let valid : IsTrue (is_length (length load)) = subst (λ (l : ℕ). IsTrue (is_length l)) (sym h) (valid_length s) in
    let f : Frame = sealing.sealed (newest_crc (receives s) (taken e)) (own_link s e) conn (command_byte c) load in
    ap (λ (l : ℕ). frame_of l (bytes_of f)) (sym h)
    ∙ parts_made f valid (count_crcs _ conn _ (command_byte c) 0 (groups load) ∙ (count_groups load ∙ halves (length load) valid))
