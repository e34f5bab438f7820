-- What the bytes of a frame say, by its layout. The order is that of the public standard.
use Rattle.std.specs.Prelude.{ℕ, ◌+◌, ◌*◌, ◌<◌, ◌==◌, List, [], ◌∷◌, slice_index, if◌then◌else◌}
use Rattle.fsoe_frame.specs.Layout.{layout}

-- the parts of a frame
pub record Frame : Type 0 where
  pub cmd : ℕ
  pub load : List ℕ
  pub crcs : List ℕ
  pub conn : ℕ

-- the bytes of a frame
abbrev pub bytes_of : Frame → List ℕ
bytes_of f = layout f.cmd f.load f.crcs f.conn

-- what no frame says
abbrev pub no_frame : Frame
no_frame = record { cmd = 0; load = []; crcs = []; conn = 0 }

-- after the command byte: one byte, its CRC, and the connection id
abbrev pub one_byte : ℕ → List ℕ → Frame
one_byte cmd (d ∷ c ∷ c' ∷ k ∷ k' ∷ []) = record { cmd = cmd; load = d ∷ []; crcs = (c + 256 * c') ∷ []; conn = k + 256 * k' }
one_byte cmd _ = no_frame

-- one group more, before those of a frame
abbrev pub add_group : ℕ → ℕ → ℕ → Frame → Frame
add_group d d' crc f = record { cmd = f.cmd; load = d ∷ d' ∷ f.load; crcs = crc ∷ f.crcs; conn = f.conn }

-- after the command byte: pairs of bytes, each followed by its CRC, and the connection id
abbrev pub pairs : ℕ → List ℕ → Frame
pairs cmd (d ∷ d' ∷ c ∷ c' ∷ bytes) = add_group d d' (c + 256 * c') (pairs cmd bytes)
pairs cmd (k ∷ k' ∷ []) = record { cmd = cmd; load = []; crcs = []; conn = k + 256 * k' }
pairs cmd _ = no_frame

-- the parts of the frame with l bytes of safe data that these bytes are
abbrev pub frame_of : ℕ → List ℕ → Frame
frame_of l [] = no_frame
frame_of l (cmd ∷ bytes) = if l == 1 then one_byte cmd bytes else pairs cmd bytes

-- each number of the list is a byte
abbrev pub AreBytes : List ℕ → Type 0
AreBytes bytes = (i : ℕ) → slice_index bytes i < 256
