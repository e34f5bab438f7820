-- What two frames differ in, and how their numbers go.
use Rattle.std.specs.Prelude.{◌≡◌, ◌≢◌, ◌<◌, ◌⊎◌, ℕ, zero, suc, ◌+◌, List, [], ◌∷◌, length, Option, Bool, bit_xor}
use Rattle.fsoe_base.specs.declared.command.Command.TheVariants as command
use Rattle.fsoe_base.specs.Command.{command_byte}
use Rattle.fsoe_crc.specs.Turned.{turned_bits}
use Rattle.seq_chain.specs.declared.link.Link.{Link}
use Rattle.fsoe_frame.specs.Layout.{groups}
use Rattle.fsoe_frame.specs.Parts.{Frame}
use Rattle.seq_chain.specs.Cover.{crc_0, crcs}
use Rattle.seq_chain.specs.Numbers.{repeats_crc}

-- two lists differ at this place, counted from 0, and nowhere else
abbrev pub DifferAt : {A : Type 0} → ℕ → List A → List A → Type 0
DifferAt zero (x ∷ xs) (y ∷ ys) = (x ≢ y) × (xs ≡ ys)
DifferAt (suc k) (x ∷ xs) (y ∷ ys) = (x ≡ y) × DifferAt k xs ys
DifferAt _ _ _ = ⊥

-- two lists of one length differ at every place
abbrev pub DifferEverywhere : List ℕ → List ℕ → Type 0
DifferEverywhere [] [] = Unit {0}
DifferEverywhere (m ∷ ms) (n ∷ ns) = (m ≢ n) × DifferEverywhere ms ns
DifferEverywhere _ _ = ⊥

-- two frames differ in their command alone
pub record DifferInCommand (f g : Frame) : Type 0 where
  pub command : f.cmd ≢ g.cmd
  pub alone : g ≡ record f { cmd = g.cmd }

-- two frames differ in their connection id field alone
pub record DifferInConnection (f g : Frame) : Type 0 where
  pub connection : f.conn ≢ g.conn
  pub alone : g ≡ record f { conn = g.conn }

-- two frames of one length differ in the data of this group alone, the first being group 0
pub record DifferInGroup (k : ℕ) (f g : Frame) : Type 0 where
  pub one_length : length f.load ≡ length g.load
  pub group : DifferAt k (groups f.load) (groups g.load)
  pub alone : g ≡ record f { load = g.load }

-- two frames differ in the CRC field of this group alone
pub record DifferInCrc (k : ℕ) (f g : Frame) : Type 0 where
  pub crc : DifferAt k f.crcs g.crcs
  pub alone : g ≡ record f { crcs = g.crcs }

-- two frames of one length differ, and not in the command or the connection id field: so in their data or CRC fields
pub record DifferInGroups (f g : Frame) : Type 0 where
  pub differ : f ≢ g
  pub one_length : length f.load ≡ length g.load
  pub command : f.cmd ≡ g.cmd
  pub connection : f.conn ≡ g.conn

-- a frame has the command of a data frame
abbrev pub HasDataCommand : Frame → Type 0
HasDataCommand frame = (frame.cmd ≡ command_byte command.ProcessData) ⊎ (frame.cmd ≡ command_byte command.FailSafeData)

-- two data frames of one length and one connection id differ
pub record DifferAsData (f g : Frame) : Type 0 where
  pub differ : f ≢ g
  pub one_length : length f.load ≡ length g.load
  pub connection : f.conn ≡ g.conn
  pub one_is_data : HasDataCommand f
  pub other_is_data : HasDataCommand g

-- in how many bits two lists of numbers differ, place by place
abbrev pub turned_within : List ℕ → List ℕ → ℕ
turned_within (m ∷ ms) (n ∷ ns) = turned_bits m n + turned_within ms ns
turned_within _ _ = 0

-- in how many bits two frames of one length differ
abbrev pub turned_in_frames : Frame → Frame → ℕ
turned_in_frames f g = turned_bits f.cmd g.cmd + turned_within f.load g.load + turned_within f.crcs g.crcs + turned_bits f.conn g.conn

-- whether the number of a frame is stepped once more, since else it would have the CRC_0 of the frame before it
abbrev pub steps_again : ℕ → Option Link → Frame → Bool
steps_again last before frame = repeats_crc (λ n. crc_0 last frame.conn n frame.cmd frame.load) before

-- the second step of the number comes for both frames or for neither
abbrev pub SteppedAlike : ℕ → Option Link → Frame → Frame → Type 0
SteppedAlike last before f g = steps_again last before f ≡ steps_again last before g

-- a frame has the same CRCs under two numbers if and only if the CRC_0 taken last differ by this exclusive-or
pub record CancelsOut (change number number' : ℕ) : Type 0 where
  pub within : change < 65536
  pub same : (last last' conn cmd : ℕ) (load : List ℕ) → last < 65536 → last' < 65536 → bit_xor last last' ≡ change → crcs last conn number cmd load ≡ crcs last' conn number' cmd load
  pub alone : (last last' conn cmd : ℕ) (load : List ℕ) → last < 65536 → last' < 65536 → 0 < length load → crcs last conn number cmd load ≡ crcs last' conn number' cmd load → bit_xor last last' ≡ change
