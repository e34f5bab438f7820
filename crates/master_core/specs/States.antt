-- How the states of a master go on, by an answer that passed the tests and by the frame that follows it, and how they
-- hang together with its settings.
use Rattle.std.specs.Prelude.{◌≡◌, ℕ, false, List, length, Result, Ok, Err, replicate, if◌then◌else◌}
use Rattle.fsoe_base.specs.declared.command.Code.{Code}
use Rattle.fsoe_base.specs.declared.command.Command.{Command}
use Rattle.fsoe_base.specs.Codes.{wrong_data}
use Rattle.seq_chain.specs.Session.{frame_sent, first_session, session_taken, session_sent}
use Rattle.seq_chain.specs.SessionFrame.{SessionFrameView}
use Rattle.seq_chain.specs.declared.session.Session.{Session}
use Rattle.param_load.specs.declared.master_settings.MasterSettings.{MasterSettings}
use Rattle.param_load.specs.declared.upload.Progress.{Progress}
use Rattle.param_load.specs.declared.upload.Progress.TheVariants as progress
use Rattle.param_load.specs.Download.{advanced, is_whole, piece_in_turn, terms_of}
use Rattle.param_load.specs.DownloadView.{DownloadView}
use Rattle.param_load.specs.Payload.{padded}
use Rattle.fsoe_base.specs.Data.{data_holds}
use Rattle.failsafe_io.specs.Offer.{data_command, data_load}
use Rattle.failsafe_io.specs.Outputs.{outputs_of}
use Rattle.end_model.specs.Setup.{OfMaster, sends, receives, piece_len}
use Rattle.master_core.specs.declared.states.Exchange.{Exchange}
use Rattle.master_core.specs.declared.states.InData.{InData}
use Rattle.master_core.specs.declared.states.InReset.{InReset}
use Rattle.master_core.specs.declared.phase.Phase.{Phase}
use Rattle.master_core.specs.declared.phase.Phase.TheVariants as phase
use Rattle.master_core.specs.Kit.{KitView, session_download}

-- state Reset, which has nothing of a session
abbrev pub no_session : InReset
no_session = record { 0 = tt }

-- the safe data of the frame with the piece in turn
abbrev pub piece_load : KitView → Exchange → List ℕ
piece_load kit x = padded (piece_in_turn x.download) (sends (OfMaster kit.settings))

-- a phase after the frame with the piece in turn is sent
abbrev pub piece_sent : Command → ℕ → KitView → Exchange → Exchange
piece_sent cmd conn kit x = record x { session = session_sent x.session conn cmd (piece_load kit x) }

-- the frame with the piece in turn
abbrev pub piece_frame : Command → ℕ → KitView → Exchange → List ℕ
piece_frame cmd conn kit x = frame_sent x.session.chain conn cmd (piece_load kit x)

-- a session begins with the session id's first piece; the Reset frame that answered the master's is kept
abbrev pub first_exchange : KitView → List ℕ → Exchange
first_exchange kit last = record { session = record first_session { last = last }; download = session_download kit }

-- a phase after the piece in turn was answered
abbrev pub answered : Exchange → SessionFrameView → Exchange
answered x f = record { session = session_taken x.session f; download = advanced x.download }

-- the next phase with its download
abbrev pub with_download : Exchange → DownloadView → Exchange
with_download x d = record x { download = d }

-- state Data as it is entered
abbrev pub first_data : KitView → Session → InData
first_data kit session = record { session = session; terms = terms_of kit.settings; outputs = replicate (receives (OfMaster kit.settings)) 0 }

-- by what the download said of an answer, a phase goes on, or the next one begins where the payload is whole
abbrev pub next_by : Result Progress Code → Phase → Phase → Result Phase Code
next_by (Err x) more whole = Err x
next_by (Ok progress.More) more whole = Ok more
next_by (Ok progress.Whole) more whole = Ok whole

-- state Data after a data frame of the slave
abbrev pub data_answered : InData → SessionFrameView → InData
data_answered s f = record s { session = session_taken s.session f; outputs = outputs_of f.command f.frame.load }

-- what a data frame of the slave leads to: state Data goes on, and FailSafeData with other data than zeros has code 07h
abbrev pub data_next : InData → SessionFrameView → Result Phase Code
data_next s f = if data_holds f.command f.frame.load then Ok (phase.Data (data_answered s f)) else Err wrong_data

-- state Data after a data frame is sent
abbrev pub data_sent : KitView → InData → InData
data_sent kit s = record s { session = session_sent s.session s.terms.conn (data_command kit.offer) (data_load kit.offer) }

-- that data frame: it carries the offer, or zeros while the master is held
abbrev pub data_frame : KitView → InData → List ℕ
data_frame kit s = frame_sent s.session.chain s.terms.conn (data_command kit.offer) (data_load kit.offer)

-- a state was made under these settings: of a download there is more to come
pub record ExchangeUnder (settings : MasterSettings) (x : Exchange) : Type 0 where
  pub piece_is : x.download.piece ≡ piece_len (OfMaster settings)
  pub more : is_whole x.download ≡ false

-- state Data was made under these settings: the outputs have the length of the slave's frames
pub record DataUnder (settings : MasterSettings) (s : InData) : Type 0 where
  pub outputs_len : length s.outputs ≡ receives (OfMaster settings)
