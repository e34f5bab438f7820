-- How the states of a slave go on by a frame that passed the tests, and how they hang together with its settings.
use Rattle.std.specs.Prelude.{◌≡◌, ℕ, ◌<◌, IsTrue, List, length, replicate, Result, Ok, Err}
use Rattle.fsoe_base.specs.declared.command.Code.{Code}
use Rattle.fsoe_base.specs.declared.command.Command.{Command}
use Rattle.fsoe_base.specs.declared.command.Command.TheVariants as command
use Rattle.seq_chain.specs.declared.session.Session.{Session}
use Rattle.seq_chain.specs.Session.{frame_sent, first_session, session_taken, session_sent}
use Rattle.seq_chain.specs.SessionFrame.{SessionFrameView}
use Rattle.param_load.specs.declared.contents.Expected.TheVariants as expected
use Rattle.param_load.specs.declared.slave_settings.SlaveSettings.{SlaveSettings}
use Rattle.param_load.specs.AppRule.{rule_len}
use Rattle.param_load.specs.Contents.{app_part}
use Rattle.param_load.specs.Payload.{session_payload, number_at, piece_from, padded}
use Rattle.param_load.specs.Profile.{allows_id}
use Rattle.param_load.specs.Upload.{session_upload, connection_upload, parameter_upload, advanced, last_piece}
use Rattle.param_load.specs.UploadView.{UploadView}
use Rattle.failsafe_io.specs.Offer.{data_command, data_load}
use Rattle.failsafe_io.specs.Outputs.{outputs_of}
use Rattle.end_model.specs.Setup.{OfSlave, sends, receives, piece_len}
use Rattle.slave_core.specs.declared.states.InReset.{InReset}
use Rattle.slave_core.specs.declared.states.InSession.{InSession}
use Rattle.slave_core.specs.declared.states.InConnection.{InConnection}
use Rattle.slave_core.specs.declared.states.InParameter.{InParameter}
use Rattle.slave_core.specs.declared.states.InData.{InData}
use Rattle.slave_core.specs.Kit.{KitView}

-- state Reset, which has nothing of a session
abbrev pub no_session : InReset
no_session = record { private = tt }

-- the session after a frame is taken and its answer is sent
abbrev pub answered : Session → SessionFrameView → ℕ → Command → List ℕ → Session
answered s f conn cmd load = session_sent (session_taken s f) conn cmd load

-- the bytes of the answer to a frame, which covers the frame
abbrev pub answer : Session → SessionFrameView → ℕ → Command → List ℕ → List ℕ
answer s f conn cmd load = frame_sent (session_taken s f).chain conn cmd load

-- a state after a frame, by what the test of its contents says: this one, or state Reset with the code of the contents
abbrev pub or_reset : {S X : Type 0} → Result X Code → S → Result S (InReset × Code)
or_reset (Ok passed) s = Ok s
or_reset (Err found) s = Err (no_session, found)

-- the load of the answer to a Session frame: the piece of the slave's own session id that has the number of the frame,
-- and zeros
abbrev pub session_load : KitView → InSession → List ℕ
session_load kit s = padded (piece_from (session_payload s.id kit.settings.profile) (length s.upload.joined) (piece_len (OfSlave kit.settings))) (sends (OfSlave kit.settings))

-- the state after a Session frame is taken: the slave's session id stays
abbrev pub session_taking : KitView → InSession → SessionFrameView → InSession
session_taking kit s f = record s { session = answered s.session f 0 command.Session (session_load kit s); upload = advanced s.upload f.frame.load }

-- the load of the answer to a Connection or a Parameter frame: its own piece, and zeros
abbrev pub echo : KitView → UploadView → SessionFrameView → List ℕ
echo kit upload f = padded (last_piece (advanced upload f.frame.load)) (sends (OfSlave kit.settings))

-- the state after a Connection frame is taken: the connection id stays
abbrev pub connection_taking : KitView → InConnection → SessionFrameView → InConnection
connection_taking kit s f = record s { session = answered s.session f s.conn command.Connection (echo kit s.upload f); upload = advanced s.upload f.frame.load }

-- the state after a Parameter frame is taken: the connection id stays
abbrev pub parameter_taking : KitView → InParameter → SessionFrameView → InParameter
parameter_taking kit s f = record s { session = answered s.session f s.conn command.Parameter (echo kit s.upload f); upload = advanced s.upload f.frame.load }

-- the state after a data frame is taken, with the outputs that it brings. The answer is the offer, or zeros while the
-- slave is held
abbrev pub data_taking : KitView → InData → SessionFrameView → InData
data_taking kit s f = record s { session = answered s.session f s.terms.conn (data_command kit.offer) (data_load kit.offer); outputs = outputs_of f.command f.frame.load }

-- a new session, of whose session id nothing has come. The slave's is its nonce
abbrev pub starting : KitView → InSession
starting kit = record { session = first_session; id = kit.nonce; upload = session_upload (piece_len (OfSlave kit.settings)) kit.settings.profile }

-- a session with this connection id, of whose connection id and address nothing has come
abbrev pub connecting : KitView → InSession → ℕ → InConnection
connecting kit s conn = record { session = s.session; conn = conn; upload = connection_upload (piece_len (OfSlave kit.settings)) conn kit.settings.address }

-- a session of whose parameters nothing has come
abbrev pub loading : KitView → InConnection → InParameter
loading kit s = record {
  session = s.session;
  conn = s.conn;
  upload = parameter_upload (piece_len (OfSlave kit.settings)) kit.settings.most kit.settings.rule kit.settings.profile;
}

-- a session under the terms that whole parameters give, with zeros as outputs
abbrev pub running : KitView → InParameter → InData
running kit s = record {
  session = s.session;
  terms = record {
    conn = s.conn;
    address = kit.settings.address;
    watchdog = number_at 2 s.upload.joined;
    app = app_part s.upload.expected s.upload.joined;
    profile = kit.settings.profile;
  };
  outputs = replicate (receives (OfSlave kit.settings)) 0;
}

-- a state Session under these settings uploads a session id of the profile, and has one that the profile allows
pub record SessionUnder (settings : SlaveSettings) (s : InSession) : Type 0 where
  pub piece_is : s.upload.piece ≡ piece_len (OfSlave settings)
  pub expected_is : s.upload.expected ≡ expected.Session settings.profile
  pub id_allowed : IsTrue (allows_id settings.profile s.id)

-- a state Connection under these settings uploads its connection id and the slave's address
pub record ConnectionUnder (settings : SlaveSettings) (s : InConnection) : Type 0 where
  pub piece_is : s.upload.piece ≡ piece_len (OfSlave settings)
  pub expected_is : s.upload.expected ≡ expected.Connection s.conn settings.address

-- a state Parameter under these settings uploads parameters that these accept
pub record ParameterUnder (settings : SlaveSettings) (s : InParameter) : Type 0 where
  pub piece_is : s.upload.piece ≡ piece_len (OfSlave settings)
  pub expected_is : s.upload.expected ≡ expected.Parameter settings.most (rule_len settings.rule) settings.profile

-- a state Data under these settings has outputs of the master's length, and a watchdog that isn't 0
pub record DataUnder (settings : SlaveSettings) (s : InData) : Type 0 where
  pub outputs_len : length s.outputs ≡ receives (OfSlave settings)
  pub some_watchdog : 0 < s.terms.watchdog
