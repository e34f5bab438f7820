-- The state of a slave after a frame that passed the tests, and its answer; and what a transition of a typed state is,
-- by looking back.
use Rattle.std.specs.Prelude.{◌≡◌, ℕ, List, [], ◌∷◌, true, None, Result, Ok, Err, OnOk, OnErr, IfOk, IfErr, if◌then◌else◌}
use Rattle.fsoe_base.specs.declared.command.Code.{Code}
use Rattle.fsoe_base.specs.declared.command.Command.TheVariants as command
use Rattle.fsoe_base.specs.Codes.{command_not_allowed, wrong_data}
use Rattle.fsoe_base.specs.Data.{data_holds}
use Rattle.fsoe_base.specs.Did.{takes}
use Rattle.fsoe_frame.specs.Parts.{AreBytes}
use Rattle.seq_chain.specs.declared.opened.Opened.TheVariants as opened_as
use Rattle.seq_chain.specs.Opened.{opened}
use Rattle.seq_chain.specs.SessionFrame.{SessionFrameView}
use Rattle.param_load.specs.declared.entry.Move.TheVariants as move
use Rattle.param_load.specs.declared.slave_settings.SlaveSettings.{SlaveSettings}
use Rattle.param_load.specs.Upload.{is_whole, outcome}
use Rattle.failsafe_io.specs.Offer.{data_command, data_load}
use Rattle.end_model.specs.Setup.{OfSlave}
use Rattle.end_model.specs.Deed.{Deed}
use Rattle.end_model.specs.Readiness.{state_of}
use Rattle.end_model.specs.Verdict.{is_repeat}
use Rattle.end_model.specs.Step.{on_fault, step}
use Rattle.end_model.specs.Runs.{IsRun}
use Rattle.slave_core.specs.declared.phase.Phase.{Phase}
use Rattle.slave_core.specs.declared.phase.Phase.TheVariants as phase
use Rattle.slave_core.specs.declared.states.InReset.{InReset}
use Rattle.slave_core.specs.Kit.{KitView}
use Rattle.slave_core.specs.Phase.{IsUnder, kept_in, fault}
use Rattle.slave_core.specs.States.{no_session, or_reset, answer, echo, session_load, session_taking, connection_taking, parameter_taking, data_taking, starting, connecting, loading, running}
use Rattle.slave_core.specs.ViewOf.{kit_of, view_of}

-- a typed state, or its refusal, as a state of the slave
abbrev pub as_phase : {S : Type 0} → (S → Phase) → Result S (InReset × Code) → Result Phase (InReset × Code)
as_phase state (Ok s) = Ok (state s)
as_phase state (Err e) = Err e

-- the state in which a frame is taken: a phase goes on until its payload is whole, then the next phase begins
abbrev pub entered : KitView → Phase → SessionFrameView → Phase
entered kit (phase.Reset s) f = phase.Session (starting kit)
entered kit (phase.Session s) f = if is_whole s.upload then phase.Connection (connecting kit s f.frame.conn) else phase.Session s
entered kit (phase.Connection s) f = if is_whole s.upload then phase.Parameter (loading kit s) else phase.Connection s
entered kit (phase.Parameter s) f = if is_whole s.upload then phase.Data (running kit s) else phase.Parameter s
entered kit (phase.Data s) f = phase.Data s

-- the state after a frame was taken in this one, or its refusal; in state Reset none is taken
abbrev pub next_in : KitView → Phase → SessionFrameView → Result Phase (InReset × Code)
next_in kit (phase.Reset s) f = Err (no_session, command_not_allowed)
next_in kit (phase.Session s) f = or_reset (outcome s.upload kit.settings.rule f.frame.load) (phase.Session (session_taking kit s f))
next_in kit (phase.Connection s) f = or_reset (outcome s.upload kit.settings.rule f.frame.load) (phase.Connection (connection_taking kit s f))
next_in kit (phase.Parameter s) f = or_reset (outcome s.upload kit.settings.rule f.frame.load) (phase.Parameter (parameter_taking kit s f))
next_in kit (phase.Data s) f = if data_holds f.command f.frame.load then Ok (phase.Data (data_taking kit s f)) else Err (no_session, wrong_data)

-- the answer in this state, which is sent where the frame is taken
abbrev pub reply_in : KitView → Phase → SessionFrameView → List ℕ
reply_in kit (phase.Reset s) f = []
reply_in kit (phase.Session s) f = answer s.session f 0 command.Session (session_load kit s)
reply_in kit (phase.Connection s) f = answer s.session f s.conn command.Connection (echo kit s.upload f)
reply_in kit (phase.Parameter s) f = answer s.session f s.conn command.Parameter (echo kit s.upload f)
reply_in kit (phase.Data s) f = answer s.session f s.terms.conn (data_command kit.offer) (data_load kit.offer)

-- what a frame leads to, and the answer
abbrev pub next_state : KitView → Phase → SessionFrameView → Result Phase (InReset × Code)
next_state kit p f = next_in kit (entered kit p f) f

abbrev pub reply : KitView → Phase → SessionFrameView → List ℕ
reply kit p f = reply_in kit (entered kit p f) f

-- a state went on in its place by a frame that is taken in this one: it is the next one and its answer is written, or
-- it is only left and nothing is written
pub record Advances (kit : KitView) (in_state : Phase) (f : SessionFrameView) (r : Result (Unit {0}) Code) (new : Phase) (before written : List ℕ) : Type 0 where
  pub next : or_reset r new ≡ next_in kit in_state f
  pub sent : OnOk r (written ≡ reply_in kit in_state f)
  pub unwritten : OnErr r (written ≡ before)
  pub under : IsUnder kit.settings new

-- a state after these deeds of a run, and bytes that pass the tests in it but for those of the contents
pub record Meets (ss : SlaveSettings) (e : List Deed) (old : Phase) (kit : KitView) (f : SessionFrameView) (bytes : List ℕ) : Type 0 where
  pub reached : IsRun (OfSlave ss) e
  pub state_is : old ≡ (view_of ss e).state
  pub kit_is : kit ≡ kit_of ss e
  pub bytes_are : AreBytes bytes
  pub is_opened : opened ss.lengths.master (is_repeat (kept_in old) bytes) bytes ≡ opened_as.OfSession f
  pub passed : fault old f ≡ None

-- the next deed takes the frame: the next state is the one after it, and what was written is the frame that it sends
pub record IsTaken (ss : SlaveSettings) (e : List Deed) (bytes : List ℕ) (f : SessionFrameView) (next : Phase) (written : List ℕ) : Type 0 where
  pub did : (step (OfSlave ss) e (move.Deliver bytes)).did ≡ takes f.command f.frame.load true
  pub state : next ≡ (view_of ss (step (OfSlave ss) e (move.Deliver bytes) ∷ e)).state
  pub sent : written ≡ (step (OfSlave ss) e (move.Deliver bytes)).sent

-- the next deed refuses the frame with this code and leaves this state Reset, and nothing was written
pub record IsRefused (ss : SlaveSettings) (e : List Deed) (bytes : List ℕ) (reset : InReset) (found : Code) (before written : List ℕ) : Type 0 where
  pub did : (step (OfSlave ss) e (move.Deliver bytes)).did ≡ on_fault (state_of (OfSlave ss) e) true found
  pub state : phase.Reset reset ≡ (view_of ss (step (OfSlave ss) e (move.Deliver bytes) ∷ e)).state
  pub unwritten : written ≡ before

-- a frame that passed the other tests in this state after any deeds of a run is taken or refused as the next deed says
pub record GoesOn (old : Phase) (kit : KitView) (f : SessionFrameView) (result : Result Phase (InReset × Code)) (before written : List ℕ) : Type 0 where
  pub ok : (ss : SlaveSettings) (e : List Deed) (bytes : List ℕ) → Meets ss e old kit f bytes → IfOk result (λ next. IsTaken ss e bytes f next written)
  pub err : (ss : SlaveSettings) (e : List Deed) (bytes : List ℕ) → Meets ss e old kit f bytes → IfErr result (λ refusal. IsRefused ss e bytes refusal.0 refusal.1 before written)

-- a transition from this state, which takes a frame in that one: it gives the next state and writes the answer, or it
-- gives state Reset and writes nothing; and it goes on as looking back says
pub record Transits {S : Type 0} (state : S → Phase) (old in_state : Phase) (kit : KitView) (f : SessionFrameView) (result : Result S (InReset × Code)) (before written : List ℕ) : Type 0 where
  pub next : as_phase state result ≡ next_in kit in_state f
  pub sent : OnOk result (written ≡ reply_in kit in_state f)
  pub unwritten : OnErr result (written ≡ before)
  pub goes_on : GoesOn old kit f (as_phase state result) before written
  pub under : IfOk result (λ s. IsUnder kit.settings (state s))
