-- What the tests of a frame and the readers ask of the phase of a master, and how it goes on.
use Rattle.std.specs.Prelude.{ℕ, Bool, true, false, List, [], replicate, Option, Some, None, Result, Err}
use Rattle.fsoe_base.specs.declared.command.Code.{Code}
use Rattle.fsoe_base.specs.declared.command.Command.{Command}
use Rattle.fsoe_base.specs.declared.command.Command.TheVariants as command
use Rattle.fsoe_base.specs.declared.command.State.{State}
use Rattle.fsoe_base.specs.declared.command.State.TheVariants as state
use Rattle.fsoe_base.specs.Codes.{command_not_allowed}
use Rattle.seq_chain.specs.declared.chain.Chain.{Chain}
use Rattle.seq_chain.specs.declared.session.Session.{Session}
use Rattle.seq_chain.specs.Session.{fits_next, chain_in, last_in}
use Rattle.seq_chain.specs.Reset.{reset_frame}
use Rattle.seq_chain.specs.Opened.{session_fault}
use Rattle.seq_chain.specs.SessionFrame.{SessionFrameView}
use Rattle.param_load.specs.declared.master_settings.MasterSettings.{MasterSettings}
use Rattle.param_load.specs.declared.terms.Terms.{Terms}
use Rattle.param_load.specs.Download.{outcome}
use Rattle.end_model.specs.Setup.{OfMaster, sends, receives}
use Rattle.end_model.specs.Readiness.{master_allows}
use Rattle.end_model.specs.Verdict.{has_conn}
use Rattle.master_core.specs.declared.phase.Phase.{Phase}
use Rattle.master_core.specs.declared.phase.Phase.TheVariants as phase
use Rattle.master_core.specs.declared.states.Due.{Due}
use Rattle.master_core.specs.Kit.{KitView, connection_download, parameter_download}
use Rattle.master_core.specs.States.{first_exchange, piece_sent, piece_frame, answered, with_download, first_data, next_by, data_next, data_sent, data_frame, ExchangeUnder, DataUnder}

-- a phase was made under these settings
abbrev pub IsUnder : MasterSettings → Phase → Type 0
IsUnder settings (phase.Session s) = ExchangeUnder settings s
IsUnder settings (phase.Connection s) = ExchangeUnder settings s
IsUnder settings (phase.Parameter s) = ExchangeUnder settings s
IsUnder settings (phase.Data s) = DataUnder settings s
IsUnder settings _ = Unit {0}

-- whether there is no session
abbrev pub is_reset : Phase → Bool
is_reset (phase.Reset s) = true
is_reset _ = false

-- the state: that of the frame that was sent last, or of the one that is due
abbrev pub state_of : Phase → State
state_of (phase.Reset s) = state.Reset
state_of (phase.Begin last) = state.Session
state_of (phase.Session s) = state.Session
state_of (phase.Connection s) = state.Connection
state_of (phase.Parameter s) = state.Parameter
state_of (phase.Data s) = state.Data

-- the session: none in state Reset, and none yet before its first frame
abbrev pub session_of : Phase → Option Session
session_of (phase.Session s) = Some s.session
session_of (phase.Connection s) = Some s.session
session_of (phase.Parameter s) = Some s.session
session_of (phase.Data s) = Some s.session
session_of _ = None

-- the frame that is kept as the one taken last: none in state Reset
abbrev pub kept_in : Phase → Option (List ℕ)
kept_in p = last_in (session_of p)

-- the chain of the session, a new one in state Reset
abbrev pub chain_of : Phase → Chain
chain_of p = chain_in (session_of p)

-- the commands of a session that are allowed: that of the phase, and none before the session's first frame
abbrev pub allows : Phase → Command → Bool
allows (phase.Begin last) c = false
allows p c = master_allows (state_of p) c

-- the code of the first test that a frame of a session fails: of its command, its connection id (a master's is the same
-- after any deeds), and its CRCs
abbrev pub fault : MasterSettings → Phase → SessionFrameView → Option Code
fault settings p f = session_fault (allows p f.command) (has_conn (OfMaster settings) [] f.command f.frame.conn) (fits_next (chain_of p) f.frame)

-- the phase after a frame that passed the tests, before the frame that follows it is sent
abbrev pub next_phase : KitView → Phase → SessionFrameView → Result Phase Code
next_phase kit (phase.Session x) f = next_by (outcome x.download f.frame.load) (phase.Session (answered x f)) (phase.Connection (with_download (answered x f) (connection_download kit.settings)))
next_phase kit (phase.Connection x) f = next_by (outcome x.download f.frame.load) (phase.Connection (answered x f)) (phase.Parameter (with_download (answered x f) (parameter_download kit.settings)))
next_phase kit (phase.Parameter x) f = next_by (outcome x.download f.frame.load) (phase.Parameter (answered x f)) (phase.Data (first_data kit (answered x f).session))
next_phase kit (phase.Data s) f = data_next s f
next_phase kit _ f = Err command_not_allowed

-- the phase after the frame that is due was sent
abbrev pub sent_phase : KitView → Phase → Phase
sent_phase kit (phase.Reset s) = phase.Reset s
sent_phase kit (phase.Begin last) = phase.Session (piece_sent command.Session 0 kit (first_exchange kit last))
sent_phase kit (phase.Session s) = phase.Session (piece_sent command.Session 0 kit s)
sent_phase kit (phase.Connection s) = phase.Connection (piece_sent command.Connection kit.settings.conn kit s)
sent_phase kit (phase.Parameter s) = phase.Parameter (piece_sent command.Parameter kit.settings.conn kit s)
sent_phase kit (phase.Data s) = phase.Data (data_sent kit s)

-- the frame that is due, with the kit of the moment when it is sent
abbrev pub due_frame : Due → KitView → Phase → List ℕ
due_frame due kit (phase.Reset s) = reset_frame due.code.0 (sends (OfMaster kit.settings))
due_frame due kit (phase.Begin last) = piece_frame command.Session 0 kit (first_exchange kit last)
due_frame due kit (phase.Session s) = piece_frame command.Session 0 kit s
due_frame due kit (phase.Connection s) = piece_frame command.Connection kit.settings.conn kit s
due_frame due kit (phase.Parameter s) = piece_frame command.Parameter kit.settings.conn kit s
due_frame due kit (phase.Data s) = data_frame kit s

-- the outputs: zeros in every state but Data
abbrev pub outputs_in : MasterSettings → Phase → List ℕ
outputs_in settings (phase.Data s) = s.outputs
outputs_in settings _ = replicate (receives (OfMaster settings)) 0

-- the terms, exactly in state Data
abbrev pub terms_in : Phase → Option Terms
terms_in (phase.Data s) = Some s.terms
terms_in _ = None
