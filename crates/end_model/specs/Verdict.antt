-- How the tests of a frame that came end. The order of the tests is this profile's own, the codes are those of the
-- public standard.
use Rattle.std.specs.Prelude.{ℕ, ◌==◌, List, Bool, not, Option, Some, None, if◌then◌else◌}
use Rattle.fsoe_base.specs.declared.command.State.{State}
use Rattle.fsoe_base.specs.declared.command.State.TheVariants as state
use Rattle.fsoe_base.specs.declared.command.Command.{Command}
use Rattle.fsoe_base.specs.declared.command.Command.TheVariants as command
use Rattle.fsoe_base.specs.declared.command.Code.{Code}
use Rattle.fsoe_base.specs.declared.did.Dropped.{Dropped}
use Rattle.fsoe_base.specs.Command.{code}
use Rattle.fsoe_frame.specs.Parts.{Frame}
use Rattle.seq_chain.specs.declared.opened.Opened.{Opened}
use Rattle.seq_chain.specs.declared.opened.Opened.TheVariants as opened_as
use Rattle.seq_chain.specs.Opened.{opened}
use Rattle.seq_chain.specs.SessionFrame.{SessionFrameView}
pub use Rattle.seq_chain.specs.Opened.{session_fault, is_repeat}
use Rattle.param_load.specs.declared.contents.Expected.{Expected}
use Rattle.param_load.specs.declared.contents.Expected.TheVariants as expected
use Rattle.param_load.specs.declared.master_settings.MasterSettings.{MasterSettings}
use Rattle.param_load.specs.declared.slave_settings.SlaveSettings.{SlaveSettings}
use Rattle.fsoe_base.specs.Data.{data_holds}
use Rattle.param_load.specs.AppRule.{rule_len}
use Rattle.param_load.specs.Payload.{is_echo, is_padded}
use Rattle.param_load.specs.UploadView.{upload_fault}
use Rattle.end_model.specs.Setup.{Setup, OfMaster, OfSlave, receives, piece_len}
use Rattle.end_model.specs.Phases.{is_guarded_command}
use Rattle.end_model.specs.Deed.{Deed}
use Rattle.end_model.specs.Chain.{since, own, kept, fits_session}
use Rattle.end_model.specs.Payloads.{pay, piece, count_in, session_id, slave_conn, uploaded}
use Rattle.end_model.specs.Readiness.{allowed}

-- how the tests of a frame end
pub data Verdict : Type 0 where
  -- all tests are passed by a frame with this command and load
  Valid : Command → List ℕ → Verdict
  -- the frame is dropped in each state: it hasn't the length of the peer's frames, or is the one that is kept as taken
  -- last
  Drop : Dropped → Verdict
  -- a test up to that of the CRCs fails with this code
  Refused : Code → Verdict
  -- the test of the contents fails with this code
  Wrong : Code → Verdict

-- this code where a test fails
abbrev pub unless : Bool → ℕ → Option Code
unless holds n = if holds then None else Some (code n)

-- a connection id is the session's; the one of a slave's first Connection frame isn't 0
abbrev pub is_slave_conn : Option ℕ → ℕ → Bool
is_slave_conn None field = not (field == 0)
is_slave_conn (Some conn) field = field == conn

-- whether a guarded frame has the right connection id
abbrev pub is_conn : Setup → List Deed → ℕ → Bool
is_conn (OfMaster ms) e field = field == ms.conn
is_conn (OfSlave ss) e field = is_slave_conn (slave_conn ss e) field

-- whether a frame has the right connection id: a guarded one the session's, another one 0
abbrev pub has_conn : Setup → List Deed → Command → ℕ → Bool
has_conn s e c field = if is_guarded_command c then is_conn s e field else field == 0

-- the contents of a frame of an upload: the fields that it ends, in order, then the padding
abbrev pub slave_upload_fault : SlaveSettings → List Deed → State → Expected → List ℕ → Option Code
slave_upload_fault ss e phase expects load = upload_fault (record { expected = expects; piece = piece_len (OfSlave ss); joined = uploaded ss phase e }) ss.rule load

-- the contents of a frame of state Data: a FailSafeData frame carries zeros
abbrev pub data_fault : Command → List ℕ → Option Code
data_fault c load = unless (data_holds c load) 0x07

-- the contents of a frame at a slave
abbrev pub slave_fault : SlaveSettings → List Deed → Command → Frame → Option Code
slave_fault ss e command.Session f = slave_upload_fault ss e state.Session (expected.Session ss.profile) f.load
slave_fault ss e command.Connection f = slave_upload_fault ss e state.Connection (expected.Connection f.conn ss.address) f.load
slave_fault ss e command.Parameter f = slave_upload_fault ss e state.Parameter (expected.Parameter ss.most (rule_len ss.rule) ss.profile) f.load
slave_fault ss e c f = data_fault c f.load

-- the piece that a master sent last, in the phase that it is in
abbrev pub piece_sent_last : MasterSettings → List Deed → State → List ℕ
piece_sent_last ms e phase = piece (pay ms (session_id (OfMaster ms) e) phase) (piece_len (OfMaster ms)) (count_in phase (own (since e)))

-- an answer of the slave in a handshake repeats the master's last piece, with zeros after it
abbrev pub echo_fault : List ℕ → List ℕ → Option Code
echo_fault sent load = unless (is_echo sent load) 0x07

-- the contents of a frame at a master; a slave's session id is its own, so that the padding alone is tested
abbrev pub master_fault : MasterSettings → List Deed → Command → Frame → Option Code
master_fault ms e command.Session f = unless (is_padded (piece_sent_last ms e state.Session) f.load) 0x07
master_fault ms e command.Connection f = echo_fault (piece_sent_last ms e state.Connection) f.load
master_fault ms e command.Parameter f = echo_fault (piece_sent_last ms e state.Parameter) f.load
master_fault ms e c f = data_fault c f.load

-- the code of the first test of a frame's contents that fails
abbrev pub contents : Setup → List Deed → Command → Frame → Option Code
contents (OfMaster ms) e c f = master_fault ms e c f
contents (OfSlave ss) e c f = slave_fault ss e c f

-- the verdict on a frame whose CRCs are right
abbrev pub judged_contents : Command → List ℕ → Option Code → Verdict
judged_contents c load None = Valid c load
judged_contents c load (Some found) = Wrong found

-- the tests of a session, at the end that these deeds leave
abbrev pub fault_after : Setup → List Deed → SessionFrameView → Option Code
fault_after s e f = session_fault (allowed s e f.command) (has_conn s e f.command f.frame.conn) (fits_session s (since e) f.frame)

-- a frame of a session: refused by the first of the session's tests that fails, else judged by its contents
abbrev pub judged_session : Setup → List Deed → SessionFrameView → Option Code → Verdict
judged_session s e f None = judged_contents f.command f.frame.load (contents s e f.command f.frame)
judged_session s e f (Some found) = Refused found

-- the verdict on a frame, by what the tests that need no session say of it
abbrev pub judged : Setup → List Deed → Opened → Verdict
judged s e (opened_as.Drop why) = Drop why
judged s e (opened_as.Refuse found) = Refused found
judged s e (opened_as.ResetFrame said f) = Valid command.Reset f.load
judged s e (opened_as.OfSession f) = judged_session s e f (fault_after s e f)

-- the first of the tests that these bytes fail: those that need no session, the length, the repeat, the command and
-- what a Reset frame says; then those of the session, and the contents
abbrev pub verdict : Setup → List Deed → List ℕ → Verdict
verdict s e bytes = judged s e (opened (receives s) (is_repeat (kept (since e)) bytes) bytes)
