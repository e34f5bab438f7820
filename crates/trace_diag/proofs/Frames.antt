-- Frames and their parts: a frame of the right length is laid out from what is read of it.
use Rattle.trace_diag.proofs.Common.{AreBytes, Frame, bytes_of, frame_layout, frame_len, frame_of, group_count, is_length, whole}
use Rattle.std.proofs.Common.{◌≡◌, ℕ, List, length, IsTrue, sym, ap, ◌∙◌, arith, rules}

-- bytes that are read as a frame are its layout
pub laid_out : (l : ℕ) (bytes : List ℕ) (f : Frame) → IsTrue (is_length l) → length bytes ≡ frame_len l → AreBytes bytes → frame_of l bytes ≡ f → bytes ≡ bytes_of f
laid_out l bytes f valid right are e = sym ((whole l bytes valid right).back are) ∙ ap bytes_of e

-- the layout of a frame is read as that
pub read_as : (l : ℕ) (bytes : List ℕ) (f : Frame) → IsTrue (is_length l) → length f.load ≡ l → length f.crcs ≡ group_count l → bytes ≡ bytes_of f → frame_of l bytes ≡ f
read_as l bytes f h k m n = search (rules, frame_layout)

-- frames with equal parts are equal
pub same_parts : (f g : Frame) → f.cmd ≡ g.cmd → f.load ≡ g.load → f.crcs ≡ g.crcs → f.conn ≡ g.conn → f ≡ g
same_parts f g h k l m = grind arith
