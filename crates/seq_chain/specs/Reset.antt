-- Reset frames, which stand outside of the chain. The command and the codes are those of the public standard;
-- connection id, number and padding are this profile's own.
use Rattle.std.specs.Prelude.{ℕ, zero, suc, List, [], ◌∷◌, ◌==◌, Bool, not, drop, Result, Ok, Err, nat_eq, replicate, if◌then◌else◌}
use Rattle.std.specs.Cmp.Lexicographic.{pointwise}
use Rattle.fsoe_base.specs.declared.command.Code.{Code}
use Rattle.fsoe_base.specs.Bytes.{all_zero}
use Rattle.fsoe_base.specs.Codes.{wrong_connection, wrong_crc, wrong_data}
use Rattle.fsoe_base.specs.Command.{code}
use Rattle.fsoe_frame.specs.Layout.{layout}
use Rattle.fsoe_frame.specs.Parts.{Frame}
use Rattle.seq_chain.specs.Cover.{crcs, first_of}

-- the data of a Reset frame: the code, and zeros
abbrev pub reset_load : ℕ → ℕ → List ℕ
reset_load code zero = []
reset_load code (suc n) = code ∷ replicate n 0

-- the CRCs of a Reset frame: no frame taken before, connection id 0, number 1
abbrev pub reset_crcs : List ℕ → List ℕ
reset_crcs load = crcs 0 0 1 0x2A load

-- the Reset frame with this code and l bytes of safe data
abbrev pub reset_frame : ℕ → ℕ → List ℕ
reset_frame code l = layout 0x2A (reset_load code l) (reset_crcs (reset_load code l)) 0

-- whether all bytes after the first are 0
abbrev pub zeros_follow : List ℕ → Bool
zeros_follow load = all_zero (drop 1 load)

-- what a frame with the command Reset says: its code, or the code of the first fault
abbrev pub reset_view : Frame → Result Code Code
reset_view frame =
    if not (frame.conn == 0) then Err wrong_connection
    else if not (pointwise nat_eq frame.crcs (reset_crcs frame.load)) then Err wrong_crc
    else if not (zeros_follow frame.load) then Err wrong_data
    else Ok (code (first_of frame.load))
