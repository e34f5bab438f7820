-- What is known of a frame of a session that came, and how the chain goes on by it.
use Rattle.slave_core.proofs.Common.{AreBytes, Chain, Command, OfSlave, SessionFrameView, SlaveSettings, State, after_taken, bytes_of, chain_sent, command_byte, command_of, frame_len, frame_sent, has_command, option_or, phase_of, phase_of_frame, piece_from, piece_len, same_phase, session_payload}
use Rattle.param_load.specs.declared.profile.Profile.{Profile}
use Rattle.std.proofs.Common.{◌≡◌, ℕ, suc, ◌+◌, ◌-◌, ◌*◌, ◌≤◌, ◌==◌, List, ◌++◌, length, take, drop, slice_index, Bool, true, false, Option, Some, None, unwrap_or, if◌then◌else◌, refl, sym, ap, ◌∙◌, length-append, suc-mul, arith}
use Rattle.std.proofs.lemmas.Grind.{common_steps}
use Rattle.fsoe_base.specs.declared.command.Command.TheVariants as command
use Rattle.fsoe_base.specs.declared.command.State.TheVariants as state
use Rattle.fsoe_frame.proofs.Places.{Whole, FrameAt, whole, frame_at}
use Rattle.slave_core.proofs.SameVerdict.{came}

-- a frame of the master's length whose command byte is that of a command
pub record Arrived (ss : SlaveSettings) (bytes : List ℕ) (c : Command) : Type 0 where
  pub load_len : length (came ss bytes).load ≡ ss.lengths.master
  pub phase_is : phase_of_frame bytes ≡ phase_of c
  pub connects : has_command command.Connection bytes ≡ (command_byte c == command_byte command.Connection)
  pub back : AreBytes bytes → bytes_of (came ss bytes) ≡ bytes

heads : (bytes : List ℕ) (c : Command) → command_of (slice_index bytes 0) ≡ Some c → (phase_of_frame bytes ≡ phase_of c) × (has_command command.Connection bytes ≡ (command_byte c == command_byte command.Connection))
heads bytes c h = grind arith

pub arrived : (ss : SlaveSettings) (bytes : List ℕ) (c : Command) → length bytes ≡ frame_len ss.lengths.master → command_of (came ss bytes).cmd ≡ Some c → Arrived ss bytes c
arrived ss bytes c len named =
    let w : Whole ss.lengths.master bytes (came ss bytes) = whole ss.lengths.master bytes ss.lengths.valid_master len in
    let at : FrameAt ss.lengths.master bytes (came ss bytes) = frame_at ss.lengths.master bytes ss.lengths.valid_master len in
    let h = heads bytes c (ap command_of (sym at.cmd_is) ∙ named) in
    record { load_len = w.load; phase_is = h.0; connects = h.1; back = w.back }

-- the chain after a frame was taken and answered
abbrev pub chain_answered : Chain → SessionFrameView → ℕ → Command → List ℕ → Chain
chain_answered chain f conn cmd load = chain_sent (after_taken chain f.frame) conn cmd load

-- the answer
abbrev pub frame_answered : Chain → SessionFrameView → ℕ → Command → List ℕ → List ℕ
frame_answered chain f conn cmd load = frame_sent (after_taken chain f.frame) conn cmd load

-- the first bytes of a load
pub piece-len : (load : List ℕ) (l c : ℕ) → length load ≡ l → c ≤ l → length (take c load) ≡ c
piece-len load l c h k = grind (arith, common_steps)

-- the piece that came last
pub last-piece : (u p : List ℕ) (c : ℕ) → length p ≡ c → drop (length (u ++ p) - c) (u ++ p) ≡ p
last-piece u p c h = grind (arith, common_steps)

-- a piece is at most as long as a frame of the master
pub piece-peer : (ss : SlaveSettings) → piece_len (OfSlave ss) ≤ ss.lengths.master
piece-peer ss = omega arith

pub id-piece : (p : Profile) (c : ℕ) (o : Option ℕ) (nonce i k len : ℕ) (ph : State) → ph ≡ state.Session → unwrap_or o nonce ≡ i → len ≡ k * c
    → piece_from (session_payload (unwrap_or o nonce) p) (((if same_phase state.Session ph then suc k else k) - 1) * c) c ≡ piece_from (session_payload i p) len c
id-piece p c o nonce i k len ph h l m = grind arith

-- the count of frames, each with a piece
pub count-next : (u p : List ℕ) (k c : ℕ) (ph : State) → ph ≡ state.Session → length u ≡ k * c → length p ≡ c → length (u ++ p) ≡ (if same_phase state.Session ph then suc k else k) * c
count-next u p k c ph h g j =
    let long : length (u ++ p) ≡ length u + length p = length-append u p in
    let more : suc k * c ≡ k * c + c = suc-mul k c in
    rw h (omega arith)

-- the connection id of the first Connection frame
pub connects-first : (o : Option ℕ) (b : Bool) (k : ℕ) → b ≡ true → option_or o (Some k) ≡ Some k → option_or o (if b then Some k else None) ≡ Some k
connects-first o b k h g = rw h g

pub connects-none : (o : Option ℕ) (b : Bool) (k : ℕ) → b ≡ false → o ≡ None → option_or o (if b then Some k else None) ≡ None
connects-none o b k h g = rw (h, g) refl
