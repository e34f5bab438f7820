-- The frame that is due in place of one, with its CRCs.
use Rattle.trace_diag.proofs.Common.{Before, End, Frame, bytes_of, common_steps, count_groups, crcs_due, due_made, first_differing, frame_len, frame_of, group_count, groups_long, halves, is_length, parts_made}
use Rattle.std.proofs.Common.{◌≡◌, ℕ, List, length, None, IsTrue, ◌∙◌, arith, rules, sym, ap}
use Rattle.trace_diag.proofs.NoneApplies.{none_differs}
use Rattle.trace_diag.proofs.RowsHold.{due_many}

-- there are as many CRCs as groups
many : (k : Before) (which : End) (f : Frame) → IsTrue (is_length (length f.load)) → length (crcs_due k.due k.chain which f) ≡ group_count (length f.load)
many k which f valid = due_many k.due k.chain which f ∙ (count_groups f.load ∙ halves (length f.load) valid)

read : (k : Before) (which : End) (f : Frame) → IsTrue (is_length (length f.load)) → frame_of (length f.load) (bytes_of (due_made k which f)) ≡ due_made k which f
read k which f valid = parts_made (due_made k which f) valid (many k which f valid)

own-frame : (f : Frame) (load : List ℕ) → load ≡ f.load → IsTrue (is_length (length load)) → length f.crcs ≡ group_count (length load) → frame_of (length load) (bytes_of f) ≡ f
own-frame f load h k l = search (rules, parts_made)

pub due_long : (k : Before) (which : End) (f : Frame) (load made : List ℕ) → made ≡ bytes_of (due_made k which f) → load ≡ f.load → IsTrue (is_length (length load)) → length made ≡ frame_len (length load)
due_long k which f load made h l m = grind (arith, common_steps, groups_long, due_many, count_groups)

pub due_read : (k : Before) (which : End) (f : Frame) (load made : List ℕ) → made ≡ bytes_of (due_made k which f) → load ≡ f.load → IsTrue (is_length (length load)) → frame_of (length load) made ≡ due_made k which f
due_read k which f load made h l m = search (rules, read)

pub due_same_many : (k : Before) (which : End) (f : Frame) (load : List ℕ) (due : Frame) → due ≡ due_made k which f → load ≡ f.load → IsTrue (is_length (length load)) → length f.crcs ≡ group_count (length load) → length due.crcs ≡ length f.crcs
due_same_many k which f load due h l m n = search (rules, many)

-- where no CRC differs, the frame is the one that is due, and so where its bytes are
pub due_where : (k : Before) (which : End) (f : Frame) (load : List ℕ) (due : Frame) → due ≡ due_made k which f → load ≡ f.load → IsTrue (is_length (length load)) → length f.crcs ≡ group_count (length load) → first_differing 0 f.crcs due.crcs ≡ None
    → due_made k which f ≡ f
due_where k which f load due h l m n o = search (rules, none_differs, due_same_many)

pub due_same : (k : Before) (which : End) (f : Frame) (load made : List ℕ) → made ≡ bytes_of (due_made k which f) → load ≡ f.load → IsTrue (is_length (length load)) → length f.crcs ≡ group_count (length load) → made ≡ bytes_of f → due_made k which f ≡ f
due_same k which f load made h l m n o = sym (due_read k which f load made h l m) ∙ (ap (frame_of (length load)) o ∙ own-frame f load l m n)
