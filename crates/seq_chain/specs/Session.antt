-- How the frames of a session are sealed, held and tested, and what an end keeps of it.
use Rattle.std.specs.Prelude.{◌≡◌, ℕ, Bool, IsTrue, List, [], length, Option, Some, None, if◌then◌else◌}
use Rattle.fsoe_base.specs.declared.command.Command.{Command}
use Rattle.fsoe_base.specs.Command.{command_byte}
use Rattle.fsoe_base.specs.Lengths.{group_count, is_length}
use Rattle.fsoe_frame.specs.Parts.{Frame, bytes_of}
use Rattle.seq_chain.specs.declared.chain.Chain.{Chain}
use Rattle.seq_chain.specs.declared.link.Link.{Link}
use Rattle.seq_chain.specs.declared.opened.Opened.{Opened}
use Rattle.seq_chain.specs.declared.opened.Opened.TheVariants as opened_as
use Rattle.seq_chain.specs.declared.session.Session.{Session}
use Rattle.seq_chain.specs.Chain.{fresh, sealed_by, after_sent, link_of, after_taken}
use Rattle.seq_chain.specs.Numbers.{last_crc}
use Rattle.seq_chain.specs.Sealing as sealing
use Rattle.seq_chain.specs.SessionFrame.{SessionFrameView}

-- the chain after this end sent a frame with this connection id, command and load
abbrev pub chain_sent : Chain → ℕ → Command → List ℕ → Chain
chain_sent chain conn cmd load = after_sent chain (sealed_by chain conn (command_byte cmd) load)

-- the bytes of that frame
abbrev pub frame_sent : Chain → ℕ → Command → List ℕ → List ℕ
frame_sent chain conn cmd load = bytes_of (sealed_by chain conn (command_byte cmd) load)

-- the CRC_0 of the last frame, if there is one
abbrev pub crc_noted : Option Link → Option ℕ
crc_noted None = None
crc_noted (Some link) = Some link.crc

-- whether a frame that came is the next one of the peer
abbrev pub fits_next : Chain → Frame → Bool
fits_next chain frame = sealing.fits (last_crc chain.own) chain.taken frame

-- what the test of a frame gives: what is noted of it, where it is the next one of the peer
abbrev pub tested : Chain → Frame → Option Link
tested chain frame = if fits_next chain frame then Some (link_of chain frame) else None

-- its safe data are kept beside it, as many as a frame can have, with a CRC for each group
pub record IsSessionFrame (s : SessionFrameView) (load : List ℕ) : Type 0 where
  pub load_is : load ≡ s.frame.load
  pub command_is : s.frame.cmd ≡ command_byte s.command
  pub valid : IsTrue (is_length (length load))
  pub groups : length s.frame.crcs ≡ group_count (length load)

-- a frame of a session has l bytes of safe data
abbrev pub HasLen : ℕ → Opened → Type 0
HasLen l (opened_as.OfSession f) = length f.frame.load ≡ l
HasLen l _ = Unit {0}

-- a session in which no frame was sent or taken yet
abbrev pub first_session : Session
first_session = record { chain = fresh; last = [] }

-- the session after a frame was taken
abbrev pub session_taken : Session → SessionFrameView → Session
session_taken s f = record { chain = after_taken s.chain f.frame; last = bytes_of f.frame }

-- the session after a frame was sent
abbrev pub session_sent : Session → ℕ → Command → List ℕ → Session
session_sent s conn cmd load = record s { chain = chain_sent s.chain conn cmd load }

-- the chain of a session, a new one where there is none
abbrev pub chain_in : Option Session → Chain
chain_in None = fresh
chain_in (Some s) = s.chain

-- the bytes of the frame that was taken last in a session, if there is one
abbrev pub last_in : Option Session → Option (List ℕ)
last_in None = None
last_in (Some s) = Some s.last

-- a frame came to an end with this chain whose peer sends l safe data bytes: it has as many, and it passed the test of
-- its CRCs, which gave this link
pub record HasPassed (l : ℕ) (chain : Chain) (f : SessionFrameView) (link : Link) : Type 0 where
  pub len_is : length f.frame.load ≡ l
  pub tested_is : tested chain f.frame ≡ Some link
