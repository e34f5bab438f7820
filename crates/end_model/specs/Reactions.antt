-- All that an end can do at its next event, in a run. Each kind of reaction says when it comes, by the state, the age
-- and the tests of a frame, and what follows. The reactions are this profile's own. The rule of each stands in
-- docs/protocol.md, in the section of this title:
--   Puts, Holds, SetsNonce              Step, put, hold, nonce
--   Rests                               Readiness, Age: a slave in Reset has age 0
--   Ages                                Step, tick, below the limit
--   Expires                             Step, tick, the age reaches the limit, in any other state
--   SendsAgain                          Step, tick, the age reaches the limit, in state Reset, master
--   ResetsItself                        Step, local reset
--   DropsLength, DropsRepeat            Step, Drop; Verdict, length and repeat
--   DropsInReset                        Step, Refused or Wrong, in state Reset
--   DropsReset                          Step, valid Reset frame with a code other than 0, in state Reset, master
--   Refuses                             Step, Refused or Wrong, in any other state
--   PeerResets                          Step, valid Reset frame, in any other state
--   Answers                             Step, valid frame of a session, or valid Reset frame in state Reset; of these:
--     SlaveRejoins, MasterStarts        Step, valid Reset frame, in state Reset
--     SlaveStarts                       Step, a slave answers a Session frame; Readiness, Allowed: Session in Reset
--     SlaveGoesOn, MasterGoesOn         Step, what is sent after a frame that was taken; Readiness, Allowed: while not whole
--     SlaveNextPhase, MasterNextPhase   the same; Readiness, Allowed: when whole
--     SlaveFirstData, MasterFirstData   Step, Data; Readiness, Allowed: data in Parameter when whole
--     SlaveMoreData, MasterMoreData     Step, Data; Readiness, Allowed: data in Data
--   UnknownCommand, WrongReset          Verdict, command; Verdict, Reset frame
--   NotAllowed, WrongConnection         Verdict, allowed; Verdict, connection id
--   WrongCrc, WrongContents             Verdict, CRC; Contents
use Rattle.std.specs.Prelude.{ℕ, suc, ◌≡◌, ◌≢◌, ◌<◌, ◌≤◌, IsTrue, List, [], ◌∷◌, length, Bool, true, false, Option, Some, None, Ok, Err}
use Rattle.fsoe_base.specs.declared.command.State.{State}
use Rattle.fsoe_base.specs.declared.command.State.TheVariants as state
use Rattle.fsoe_base.specs.declared.command.Command.{Command}
use Rattle.fsoe_base.specs.declared.command.Command.TheVariants as command
use Rattle.fsoe_base.specs.declared.command.Code.{Code}
use Rattle.fsoe_base.specs.declared.did.Cause.TheVariants as reset_cause
use Rattle.fsoe_base.specs.declared.did.Dropped.TheVariants as why
use Rattle.fsoe_base.specs.declared.did.Did.{Did}
use Rattle.fsoe_base.specs.Codes.{command_not_allowed, unknown_command, wrong_connection, wrong_crc, watchdog_expired}
use Rattle.fsoe_base.specs.Command.{command_of, code}
use Rattle.fsoe_base.specs.Data.{is_data}
use Rattle.fsoe_base.specs.Did.{nothing, dropped, resets}
use Rattle.fsoe_base.specs.Lengths.{frame_len}
use Rattle.fsoe_frame.specs.Parts.{Frame, frame_of}
use Rattle.seq_chain.specs.Cover.{first_of}
use Rattle.seq_chain.specs.Reset.{reset_frame, reset_view}
use Rattle.param_load.specs.declared.entry.Move.{Move}
use Rattle.param_load.specs.declared.entry.Move.TheVariants as move
use Rattle.param_load.specs.declared.master_settings.MasterSettings.{MasterSettings}
use Rattle.param_load.specs.declared.slave_settings.SlaveSettings.{SlaveSettings}
use Rattle.param_load.specs.Profile.{allows_id}
use Rattle.end_model.specs.Setup.{Setup, OfMaster, OfSlave, sends, receives, piece_len}
use Rattle.end_model.specs.Runs.{IsMaster, IsSlave, profile_of}
use Rattle.end_model.specs.Phases.{phase_of, has_command}
use Rattle.end_model.specs.Deed.{Deed, is_empty}
use Rattle.end_model.specs.Chain.{since, own, taken, kept, fits_session}
use Rattle.end_model.specs.Payloads.{pay, pieces, count_in, session_id}
use Rattle.end_model.specs.Readiness.{state_of, age, limit, allowed, upload_is_whole}
use Rattle.end_model.specs.Verdict.{Verdict, Refused, Wrong, has_conn, contents, verdict}
use Rattle.end_model.specs.Step.{takes_frame, begun, with_data, slave_answer, download_frame}

-- an end counts ticks: a master in each state, a slave outside state Reset
abbrev pub CountsTicks : Setup → List Deed → Type 0
CountsTicks (OfMaster ms) e = Unit {0}
CountsTicks (OfSlave ss) e = state_of (OfSlave ss) e ≢ state.Reset

-- nothing is of a session: no frame was sent, taken or kept since the last Reset frame
pub record HasNoSession (e : List Deed) : Type 0 where
  pub none_sent : own (since e) ≡ []
  pub none_taken : taken (since e) ≡ []
  pub none_kept : kept (since e) ≡ None

-- the commands of a handshake within a session
pub data IsHandshake : Command → Type 0 where
  OfSession : IsHandshake command.Session
  OfConnection : IsHandshake command.Connection
  OfParameter : IsHandshake command.Parameter

-- the command of the next phase of a handshake
pub data IsNextPhase : Command → Command → Type 0 where
  AfterSession : IsNextPhase command.Session command.Connection
  AfterConnection : IsNextPhase command.Connection command.Parameter

-- the parts of a frame that came
abbrev pub parts : Setup → List ℕ → Frame
parts s bytes = frame_of (receives s) bytes

-- a frame that comes as far as the tests of its command: it has the length of the peer's frames, isn't the one that is
-- kept as taken last, and its first byte stands for this command, or for none
pub record IsRead (s : Setup) (e : List Deed) (bytes : List ℕ) (c : Option Command) : Type 0 where
  pub has_length : length bytes ≡ frame_len (receives s)
  pub is_new : kept (since e) ≢ Some bytes
  pub command_is : command_of (parts s bytes).cmd ≡ c

-- a Reset frame that passed all of its tests
pub record IsResetFrame (s : Setup) (e : List Deed) (bytes load : List ℕ) : Type 0 where
  pub is_read : IsRead s e bytes (Some command.Reset)
  pub load_is : (parts s bytes).load ≡ load
  pub is_sound : reset_view (parts s bytes) ≡ Ok (code (first_of load))

-- a frame of a session that passed all of its tests
pub record IsValid (s : Setup) (e : List Deed) (bytes : List ℕ) (c : Command) (load : List ℕ) : Type 0 where
  pub is_read : IsRead s e bytes (Some c)
  pub load_is : (parts s bytes).load ≡ load
  pub is_allowed : allowed s e c ≡ true
  pub has_conn_id : has_conn s e c (parts s bytes).conn ≡ true
  pub does_fit : fits_session s (since e) (parts s bytes) ≡ true
  pub is_sound : contents s e c (parts s bytes) ≡ None

-- a frame fails a test with this code, the first test that it fails; and whether it passed that of its CRCs
pub data Fails (s : Setup) (e : List Deed) (bytes : List ℕ) : Bool → Code → Type 0 where
  UnknownCommand : IsRead s e bytes None → Fails s e bytes false unknown_command
  WrongReset : (found : Code) → IsRead s e bytes (Some command.Reset) → reset_view (parts s bytes) ≡ Err found
      → Fails s e bytes false found
  NotAllowed : (c : Command) → c ≢ command.Reset → IsRead s e bytes (Some c) → allowed s e c ≡ false
      → Fails s e bytes false command_not_allowed
  WrongConnection : (c : Command) → c ≢ command.Reset → IsRead s e bytes (Some c) → allowed s e c ≡ true
      → has_conn s e c (parts s bytes).conn ≡ false
      → Fails s e bytes false wrong_connection
  WrongCrc : (c : Command) → c ≢ command.Reset → IsRead s e bytes (Some c) → allowed s e c ≡ true
      → has_conn s e c (parts s bytes).conn ≡ true
      → fits_session s (since e) (parts s bytes) ≡ false
      → Fails s e bytes false wrong_crc
  WrongContents : (c : Command) (found : Code) → c ≢ command.Reset → IsRead s e bytes (Some c) → allowed s e c ≡ true
      → has_conn s e c (parts s bytes).conn ≡ true
      → fits_session s (since e) (parts s bytes) ≡ true → contents s e c (parts s bytes) ≡ Some found
      → Fails s e bytes true found

-- the verdict on a frame that fails a test: on its contents where it passed that of its CRCs
abbrev pub failed_with : Bool → Code → Verdict
failed_with false found = Refused found
failed_with true found = Wrong found

-- the deeds with one that took a frame and has sent nothing yet
abbrev pub received : List ℕ → Command → List ℕ → List Deed → List Deed
received bytes c load e = begun (move.Deliver bytes) (takes_frame c load) ∷ e

-- the deeds with one that took a frame and answered it
abbrev pub with_answer : List ℕ → Command → List ℕ → List ℕ → List Deed → List Deed
with_answer bytes c load answer e = record { what = move.Deliver bytes; did = takes_frame c load; sent = answer } ∷ e

-- the pieces that a master sent of the payload of a phase
abbrev pub pieces_sent : List Deed → State → ℕ
pieces_sent e phase = count_in phase (own (since e))

-- the pieces of the whole payload of a phase
abbrev pub all_pieces : MasterSettings → List Deed → State → ℕ
all_pieces ms e phase = pieces (pay ms (session_id (OfMaster ms) e) phase) (piece_len (OfMaster ms))

-- a frame that is there, and no Reset frame
pub record IsInSession (f : List ℕ) : Type 0 where
  pub in_session : has_command command.Reset f ≡ false
  pub sent : is_empty f ≡ false

-- an end takes a valid frame of a session; its answer is the frame that it makes then, and `next` is its state after it
pub record IsExchange (s : Setup) (e : List Deed) (bytes load : List ℕ) (c : Command) (answer made : List ℕ) (next : State) : Type 0 where
  pub valid : IsValid s e bytes c load
  pub is_made : answer ≡ made
  pub in_session : IsInSession answer
  pub after : state_of s (with_answer bytes c load answer e) ≡ next

-- an end takes a frame with this command and load, and answers it
pub data Taking (e : List Deed) (bytes load : List ℕ) : Setup → Command → List ℕ → Type 0 where
  -- a slave in state Reset takes a Reset frame, whatever its code, and stays in Reset
  SlaveRejoins : (ss : SlaveSettings) → state_of (OfSlave ss) e ≡ state.Reset → HasNoSession e
      → IsResetFrame (OfSlave ss) e bytes load
      → Taking e bytes load (OfSlave ss) command.Reset (reset_frame 0 (sends (OfSlave ss)))
  -- a slave in state Reset takes its first Session frame
  SlaveStarts : (ss : SlaveSettings) (answer : List ℕ) → state_of (OfSlave ss) e ≡ state.Reset → HasNoSession e
      → IsExchange (OfSlave ss) e bytes load command.Session answer (slave_answer ss (received bytes command.Session load e) command.Session load) state.Session
      → Taking e bytes load (OfSlave ss) command.Session answer
  -- a slave takes a further frame of a phase whose payload isn't whole
  SlaveGoesOn : (ss : SlaveSettings) (c : Command) (answer : List ℕ) → IsHandshake c → state_of (OfSlave ss) e ≡ phase_of c
      → upload_is_whole ss (phase_of c) e ≡ false
      → IsExchange (OfSlave ss) e bytes load c answer (slave_answer ss (received bytes c load e) c load) (phase_of c)
      → Taking e bytes load (OfSlave ss) c answer
  -- a slave has the whole payload of a phase, and takes the first frame of the next
  SlaveNextPhase : (ss : SlaveSettings) (before c : Command) (answer : List ℕ) → IsNextPhase before c
      → state_of (OfSlave ss) e ≡ phase_of before → upload_is_whole ss (phase_of before) e ≡ true
      → IsExchange (OfSlave ss) e bytes load c answer (slave_answer ss (received bytes c load e) c load) (phase_of c)
      → Taking e bytes load (OfSlave ss) c answer
  -- a slave has the whole parameters, and takes its first data
  SlaveFirstData : (ss : SlaveSettings) (c : Command) (answer : List ℕ) → IsTrue (is_data c) → state_of (OfSlave ss) e ≡ state.Parameter
      → upload_is_whole ss state.Parameter e ≡ true
      → IsExchange (OfSlave ss) e bytes load c answer (with_data (OfSlave ss) (received bytes c load e)) state.Data
      → Taking e bytes load (OfSlave ss) c answer
  -- a slave takes further data
  SlaveMoreData : (ss : SlaveSettings) (c : Command) (answer : List ℕ) → IsTrue (is_data c) → state_of (OfSlave ss) e ≡ state.Data
      → upload_is_whole ss state.Parameter e ≡ true
      → IsExchange (OfSlave ss) e bytes load c answer (with_data (OfSlave ss) (received bytes c load e)) state.Data
      → Taking e bytes load (OfSlave ss) c answer
  -- a master in state Reset takes the answer to its Reset frame, and sends its first Session frame
  MasterStarts : (ms : MasterSettings) (answer : List ℕ) → state_of (OfMaster ms) e ≡ state.Reset → HasNoSession e
      → IsResetFrame (OfMaster ms) e bytes load → first_of load ≡ 0
      → answer ≡ download_frame ms (received bytes command.Reset load e) command.Session 1 → IsInSession answer
      → state_of (OfMaster ms) (with_answer bytes command.Reset load answer e) ≡ state.Session
      → Taking e bytes load (OfMaster ms) command.Reset answer
  -- a master takes an answer of a phase, and sends the next piece of its payload
  MasterGoesOn : (ms : MasterSettings) (c : Command) (answer : List ℕ) → IsHandshake c → state_of (OfMaster ms) e ≡ phase_of c
      → pieces_sent e (phase_of c) < all_pieces ms e (phase_of c)
      → IsExchange (OfMaster ms) e bytes load c answer (download_frame ms (received bytes c load e) c (suc (pieces_sent e (phase_of c)))) (phase_of c)
      → Taking e bytes load (OfMaster ms) c answer
  -- a master takes the answer to the last piece of a phase, and sends the first of the next
  MasterNextPhase : (ms : MasterSettings) (c next : Command) (answer : List ℕ) → IsNextPhase c next
      → state_of (OfMaster ms) e ≡ phase_of c → all_pieces ms e (phase_of c) ≤ pieces_sent e (phase_of c)
      → IsExchange (OfMaster ms) e bytes load c answer (download_frame ms (received bytes c load e) next 1) (phase_of next)
      → Taking e bytes load (OfMaster ms) c answer
  -- a master takes the answer to the last piece of the parameters, and sends its first data
  MasterFirstData : (ms : MasterSettings) (answer : List ℕ) → state_of (OfMaster ms) e ≡ state.Parameter
      → all_pieces ms e state.Parameter ≤ pieces_sent e state.Parameter
      → IsExchange (OfMaster ms) e bytes load command.Parameter answer (with_data (OfMaster ms) (received bytes command.Parameter load e)) state.Data
      → Taking e bytes load (OfMaster ms) command.Parameter answer
  -- a master takes data, and sends its next data
  MasterMoreData : (ms : MasterSettings) (c : Command) (answer : List ℕ) → IsTrue (is_data c) → state_of (OfMaster ms) e ≡ state.Data
      → IsExchange (OfMaster ms) e bytes load c answer (with_data (OfMaster ms) (received bytes c load e)) state.Data
      → Taking e bytes load (OfMaster ms) c answer

-- what an end does at its next event, and the frame that it sends
pub data Reaction (s : Setup) (e : List Deed) : Move → Did → List ℕ → Type 0 where
  -- safe data are put
  Puts : (load : List ℕ) → length load ≡ sends s → Reaction s e (move.Put load) nothing []
  -- the end is held, or held no more
  Holds : (failsafe : Bool) → Reaction s e (move.Hold failsafe) nothing []
  -- a nonce is set
  SetsNonce : (id : ℕ) → IsTrue (allows_id (profile_of s) id) → Reaction s e (move.Nonce id) nothing []
  -- a slave in state Reset does nothing at a tick
  Rests : IsSlave s → state_of s e ≡ state.Reset → Reaction s e move.Tick nothing []
  -- a tick is counted, and the age stays below the limit
  Ages : CountsTicks s e → suc (age s e) < limit s e → Reaction s e move.Tick nothing []
  -- the age reaches the limit outside state Reset: the session ends
  Expires : state_of s e ≢ state.Reset → limit s e ≤ suc (age s e)
      → Reaction s e move.Tick (resets false (reset_cause.Found watchdog_expired)) (reset_frame watchdog_expired.0 (sends s))
  -- the age reaches the limit at a master in state Reset: it sends Reset again
  SendsAgain : IsMaster s → state_of s e ≡ state.Reset → limit s e ≤ suc (age s e)
      → Reaction s e move.Tick (record nothing { sent = true }) (reset_frame 0 (sends s))
  -- a reset of the end's own
  ResetsItself : Reaction s e move.Local (resets false reset_cause.Local) (reset_frame 0 (sends s))
  -- a frame hasn't the length of the peer's frames
  DropsLength : (bytes : List ℕ) → length bytes ≢ frame_len (receives s) → Reaction s e (move.Deliver bytes) (dropped why.Length) []
  -- a frame is the one that is kept as taken last: outside state Reset alone, as nothing is kept there
  DropsRepeat : (bytes : List ℕ) → length bytes ≡ frame_len (receives s) → kept (since e) ≡ Some bytes
      → state_of s e ≢ state.Reset → Reaction s e (move.Deliver bytes) (dropped why.Repeat) []
  -- a frame fails a test in state Reset
  DropsInReset : (bytes : List ℕ) (passed : Bool) (found : Code) → state_of s e ≡ state.Reset
      → verdict s e bytes ≡ failed_with passed found → Fails s e bytes passed found
      → Reaction s e (move.Deliver bytes) (record (dropped why.InReset) { passed = passed }) []
  -- a Reset frame with another code than 0 comes to a master in state Reset
  DropsReset : (bytes load : List ℕ) → IsMaster s → state_of s e ≡ state.Reset → IsResetFrame s e bytes load → first_of load ≢ 0
      → Reaction s e (move.Deliver bytes) (dropped why.InReset) []
  -- a frame fails a test outside state Reset: the session ends
  Refuses : (bytes : List ℕ) (passed : Bool) (found : Code) → state_of s e ≢ state.Reset → verdict s e bytes ≡ failed_with passed found
      → Fails s e bytes passed found
      → Reaction s e (move.Deliver bytes) (resets passed (reset_cause.Found found)) (reset_frame found.0 (sends s))
  -- the peer ends the session
  PeerResets : (bytes load : List ℕ) → state_of s e ≢ state.Reset → IsResetFrame s e bytes load
      → Reaction s e (move.Deliver bytes) (resets false (reset_cause.Peer (code (first_of load)))) (reset_frame 0 (sends s))
  -- a frame is taken and answered
  Answers : (bytes load : List ℕ) (c : Command) (answer : List ℕ) → Taking e bytes load s c answer
      → Reaction s e (move.Deliver bytes) (takes_frame c load) answer

-- a deed is of one of these kinds
abbrev pub IsReaction : Setup → List Deed → Deed → Type 0
IsReaction s e x = Reaction s e x.what x.did x.sent
