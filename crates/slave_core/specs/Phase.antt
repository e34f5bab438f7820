-- What the tests of a frame, the watchdog and the readers ask of the state of a slave.
use Rattle.std.specs.Prelude.{◌≡◌, ℕ, ◌==◌, Bool, true, false, not, IsTrue, List, replicate, Option, Some, None, if◌then◌else◌}
use Rattle.fsoe_base.specs.declared.command.Command.{Command}
use Rattle.fsoe_base.specs.declared.command.Command.TheVariants as command
use Rattle.fsoe_base.specs.declared.command.State.{State}
use Rattle.fsoe_base.specs.declared.command.State.TheVariants as state
use Rattle.fsoe_base.specs.declared.command.Code.{Code}
use Rattle.fsoe_base.specs.Data.{is_data}
use Rattle.seq_chain.specs.declared.chain.Chain.{Chain}
use Rattle.seq_chain.specs.declared.link.Link.{Link}
use Rattle.seq_chain.specs.declared.session.Session.{Session}
use Rattle.seq_chain.specs.Session.{fits_next, HasPassed, chain_in, last_in}
use Rattle.seq_chain.specs.Opened.{session_fault}
use Rattle.seq_chain.specs.SessionFrame.{SessionFrameView}
use Rattle.param_load.specs.declared.slave_settings.SlaveSettings.{SlaveSettings}
use Rattle.param_load.specs.declared.terms.Terms.{Terms}
use Rattle.param_load.specs.Payload.{number_at}
use Rattle.param_load.specs.Upload.{is_whole}
use Rattle.end_model.specs.Setup.{OfSlave, receives}
use Rattle.end_model.specs.Readiness.{slave_allows}
use Rattle.slave_core.specs.declared.phase.Phase.{Phase}
use Rattle.slave_core.specs.declared.phase.Phase.TheVariants as phase
use Rattle.slave_core.specs.States.{SessionUnder, ConnectionUnder, ParameterUnder, DataUnder}

-- a state was made under these settings
abbrev pub IsUnder : SlaveSettings → Phase → Type 0
IsUnder settings (phase.Reset s) = Unit {0}
IsUnder settings (phase.Session s) = SessionUnder settings s
IsUnder settings (phase.Connection s) = ConnectionUnder settings s
IsUnder settings (phase.Parameter s) = ParameterUnder settings s
IsUnder settings (phase.Data s) = DataUnder settings s

-- the name of a state
abbrev pub state_of : Phase → State
state_of (phase.Reset s) = state.Reset
state_of (phase.Session s) = state.Session
state_of (phase.Connection s) = state.Connection
state_of (phase.Parameter s) = state.Parameter
state_of (phase.Data s) = state.Data

-- whether there is no session
abbrev pub is_reset : Phase → Bool
is_reset (phase.Reset s) = true
is_reset _ = false

-- the session: none in state Reset
abbrev pub session_of : Phase → Option Session
session_of (phase.Reset s) = None
session_of (phase.Session s) = Some s.session
session_of (phase.Connection s) = Some s.session
session_of (phase.Parameter s) = Some s.session
session_of (phase.Data s) = Some s.session

-- the bytes of the frame that was taken last in the session: none in state Reset
abbrev pub kept_in : Phase → Option (List ℕ)
kept_in p = last_in (session_of p)

-- the chain of the session, a new one in state Reset
abbrev pub chain_of : Phase → Chain
chain_of p = chain_in (session_of p)

-- whether no payload is still to come in this state: that of a phase is whole
abbrev pub upload_is_whole : Phase → Bool
upload_is_whole (phase.Session s) = is_whole s.upload
upload_is_whole (phase.Connection s) = is_whole s.upload
upload_is_whole (phase.Parameter s) = is_whole s.upload
upload_is_whole _ = true

-- the commands of a session that are allowed: that of the phase until its payload is whole, then that of the next phase
abbrev pub allows : Phase → Command → Bool
allows p c = slave_allows (state_of p) (upload_is_whole p) c

-- the connection id of a frame is 0 for Session, not 0 for the first Connection frame, and else the session's
abbrev pub has_conn : Phase → Command → ℕ → Bool
has_conn (phase.Reset s) cmd field = field == 0
has_conn (phase.Session s) command.Session field = field == 0
has_conn (phase.Session s) _ field = not (field == 0)
has_conn (phase.Connection s) cmd field = field == s.conn
has_conn (phase.Parameter s) cmd field = field == s.conn
has_conn (phase.Data s) cmd field = field == s.terms.conn

-- the code of the first test that a frame of a session fails: of its command, its connection id, and its CRCs
abbrev pub fault : Phase → SessionFrameView → Option Code
fault p f = session_fault (allows p f.command) (has_conn p f.command f.frame.conn) (fits_next (chain_of p) f.frame)

-- the ticks after which a session expires: those of a handshake, and the downloaded watchdog once the parameters are
-- whole
abbrev pub limit_of : SlaveSettings → Phase → ℕ
limit_of settings (phase.Reset s) = settings.hand
limit_of settings (phase.Session s) = settings.hand
limit_of settings (phase.Connection s) = settings.hand
limit_of settings (phase.Parameter s) = if is_whole s.upload then number_at 2 s.upload.joined else settings.hand
limit_of settings (phase.Data s) = s.terms.watchdog

-- the outputs: those of state Data, and zeros in every other state
abbrev pub outputs_in : SlaveSettings → Phase → List ℕ
outputs_in settings (phase.Data s) = s.outputs
outputs_in settings _ = replicate (receives (OfSlave settings)) 0

-- the terms, which are there in state Data
abbrev pub terms_shown_in : Phase → Option Terms
terms_shown_in (phase.Data s) = Some s.terms
terms_shown_in _ = None

-- a frame came with this link to a state that was made under these settings, and passed the test of its CRCs
pub record PassedIn (settings : SlaveSettings) (p : Phase) (f : SessionFrameView) (link : Link) : Type 0 where
  pub under : IsUnder settings p
  pub passed : HasPassed (receives (OfSlave settings)) (chain_of p) f link

-- the next frame of a phase has this command, or the payload of the phase isn't whole yet
abbrev pub GoesOnBy : Phase → Command → Type 0
GoesOnBy (phase.Reset s) c = Unit {0}
GoesOnBy (phase.Data s) c = IsTrue (is_data c)
GoesOnBy p c = upload_is_whole p ≡ false
