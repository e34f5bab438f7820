-- What each event at a master leaves, does and sends.
use Rattle.std.specs.Prelude.{ℕ, ◌-◌, ◌==◌, Bool, true, false, List, [], Option, Some, None, Result, Ok, Err, if◌then◌else◌}
use Rattle.fsoe_base.specs.declared.command.Code.{Code}
use Rattle.fsoe_base.specs.declared.command.Command.TheVariants as command
use Rattle.fsoe_base.specs.declared.did.Cause.{Cause}
use Rattle.fsoe_base.specs.declared.did.Cause.TheVariants as reset_cause
use Rattle.fsoe_base.specs.declared.did.Did.{Did}
use Rattle.fsoe_base.specs.declared.did.Dropped.{Dropped}
use Rattle.fsoe_base.specs.declared.did.Dropped.TheVariants as dropped
use Rattle.fsoe_base.specs.Did as did
use Rattle.fsoe_base.specs.Did.{takes, resets}
use Rattle.fsoe_base.specs.Codes.{local_reset, watchdog_expired}
use Rattle.fsoe_base.specs.Command.{code}
use Rattle.fsoe_frame.specs.Parts.{Frame, bytes_of}
use Rattle.failsafe_io.specs.Timer.{started, expires, ticked}
use Rattle.param_load.specs.declared.entry.Move.{Move}
use Rattle.param_load.specs.declared.entry.Move.TheVariants as move
use Rattle.param_load.specs.declared.master_settings.MasterSettings.{MasterSettings}
use Rattle.seq_chain.specs.declared.opened.Opened.{Opened}
use Rattle.seq_chain.specs.declared.opened.Opened.TheVariants as opened_as
use Rattle.seq_chain.specs.Opened.{opened}
use Rattle.seq_chain.specs.Reset.{reset_frame}
use Rattle.seq_chain.specs.SessionFrame.{SessionFrameView}
use Rattle.end_model.specs.Setup.{OfMaster, sends, receives}
use Rattle.end_model.specs.Step.{code_sent}
use Rattle.end_model.specs.Verdict.{is_repeat}
use Rattle.master_core.specs.declared.phase.Phase.{Phase}
use Rattle.master_core.specs.declared.phase.Phase.TheVariants as phase
use Rattle.master_core.specs.Kit.{KitView, first_kit}
use Rattle.master_core.specs.Now.{at_rest, is_due, replied, reply}
use Rattle.master_core.specs.Phase.{is_reset, kept_in, fault, next_phase}
use Rattle.master_core.specs.MasterView.{MasterView}
use Rattle.master_core.specs.States.{no_session}

-- what a frame that is accepted leaves and does
pub record Accepted : Type 0 where
  pub master : MasterView
  pub did : Did

-- what an event leaves, does and sends
pub record Outcome : Type 0 where
  pub master : MasterView
  pub did : Did
  pub sent : List ℕ

-- both by their parts
abbrev pub accepted_of : MasterView → Did → Accepted
accepted_of v done = record { master = v; did = done }

abbrev pub outcome_of : MasterView → Did → List ℕ → Outcome
outcome_of v done sent = record { master = v; did = done; sent = sent }

-- a new master: its first tick reaches the limit
abbrev pub first_master : MasterSettings → MasterView
first_master settings = record { kit = first_kit settings; state = at_rest (phase.Reset no_session); timer = record { limit = settings.watchdog; age = settings.watchdog - 1 } }

-- a frame is dropped that didn't pass the test of the CRCs
abbrev pub drops : MasterView → Dropped → Accepted
drops v why = accepted_of v (did.dropped why)

-- a step after which the frame of this phase is due, a Reset frame with this code: none was sent yet
abbrev pub makes_due : MasterView → Phase → Code → Did → Accepted
makes_due v p x done = accepted_of (record v { state = record { phase = p; due = Some (record { code = x }) }; timer = started v.kit.settings.watchdog }) (record done { sent = false })

-- a session ends, and a Reset frame is due
abbrev pub ends : MasterView → Bool → Cause → Accepted
ends v passed why = makes_due v (phase.Reset no_session) (code (code_sent why)) (resets passed why)

-- a test fails: in state Reset the frame is dropped, and else the session ends
abbrev pub refuses : MasterView → Code → Accepted
refuses v x = if is_reset v.state.phase then drops v dropped.InReset else ends v false (reset_cause.Found x)

-- in state Reset the Reset frame with code 0 begins a session, and one with another code is dropped
abbrev pub begins : MasterView → Code → Frame → Accepted
begins v x f = if x.0 == 0 then makes_due v (phase.Begin (bytes_of f)) local_reset (takes command.Reset f.load false) else drops v dropped.InReset

-- a valid Reset frame: outside state Reset the session ends
abbrev pub on_reset_view : MasterView → Code → Frame → Accepted
on_reset_view v x f = if is_reset v.state.phase then begins v x f else ends v false (reset_cause.Peer x)

-- a frame that passed the tests, by its contents
abbrev pub settles : MasterView → SessionFrameView → Result Phase Code → Accepted
settles v f (Ok p) = makes_due v p local_reset (takes f.command f.frame.load true)
settles v f (Err x) = ends v true (reset_cause.Found x)

-- a frame of a session
abbrev pub on_session : MasterView → SessionFrameView → Option Code → Accepted
on_session v f None = settles v f (next_phase v.kit v.state.phase f)
on_session v f (Some x) = refuses v x

-- a frame is accepted, by what the tests that need no session say of it
abbrev pub accepted_by : MasterView → Opened → Accepted
accepted_by v (opened_as.Drop why) = drops v why
accepted_by v (opened_as.Refuse x) = refuses v x
accepted_by v (opened_as.ResetFrame x f) = on_reset_view v x f
accepted_by v (opened_as.OfSession f) = on_session v f (fault v.kit.settings v.state.phase f)

-- a frame is accepted: it is tested for its length, and against the frame that was taken last
abbrev pub accepted : MasterView → List ℕ → Accepted
accepted v bytes = accepted_by v (opened (receives (OfMaster v.kit.settings)) (is_repeat (kept_in v.state.phase) bytes) bytes)

-- the frame that is due is sent, and the master is in the state that it leads to
abbrev pub replies : MasterView → MasterView
replies v = record v { state = replied v.kit v.state }

-- after a frame was accepted so, the frame that is due then is sent
abbrev pub answered_by : Accepted → Outcome
answered_by a = outcome_of (replies a.master) (record a.did { sent = is_due a.master.state }) (reply a.master.kit a.master.state)

-- a frame is accepted, and the frame that is due then is sent at once
abbrev pub on_frame : MasterView → List ℕ → Outcome
on_frame v bytes = answered_by (accepted v bytes)

-- a session ends, and a Reset frame is sent at once
abbrev pub falls : MasterView → Cause → Outcome
falls v why = answered_by (ends v false why)

-- the limit is reached: in state Reset the Reset frame with code 0 is sent again
abbrev pub at_limit : MasterView → Outcome
at_limit v =
    if is_reset v.state.phase
    then outcome_of (record v { timer = started v.kit.settings.watchdog }) (record did.nothing { sent = true }) (reset_frame 0 (sends (OfMaster v.kit.settings)))
    else falls v (reset_cause.Found watchdog_expired)

-- a tick makes the age one more, and expires where that reaches the limit
abbrev pub tick_of : MasterView → Outcome
tick_of v = if expires v.timer then at_limit v else outcome_of (record v { timer = ticked v.timer }) did.nothing []

-- what outlasts sessions is set: an offer, a hold or a nonce
abbrev pub with_kit : MasterView → KitView → Outcome
with_kit v kit = outcome_of (record v { kit = kit }) did.nothing []

-- the outcome of an event, while no frame is due
abbrev pub after : MasterView → Move → Outcome
after v (move.Deliver bytes) = on_frame v bytes
after v move.Tick = tick_of v
after v move.Local = falls v reset_cause.Local
after v (move.Put load) = with_kit v (record v.kit { offer = record v.kit.offer { load = load } })
after v (move.Hold failsafe) = with_kit v (record v.kit { offer = record v.kit.offer { held = failsafe } })
after v (move.Nonce id) = with_kit v (record v.kit { nonce = id })
