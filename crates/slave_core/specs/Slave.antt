-- What each event at a slave leaves, does and sends.
use Rattle.std.specs.Prelude.{ℕ, Bool, true, false, List, [], Option, Some, None, Result, Ok, Err, if◌then◌else◌}
use Rattle.fsoe_base.specs.declared.command.Code.{Code}
use Rattle.fsoe_base.specs.declared.command.Command.TheVariants as command
use Rattle.fsoe_base.specs.declared.did.Cause.{Cause}
use Rattle.fsoe_base.specs.declared.did.Cause.TheVariants as reset_cause
use Rattle.fsoe_base.specs.declared.did.Did.{Did}
use Rattle.fsoe_base.specs.declared.did.Dropped.{Dropped}
use Rattle.fsoe_base.specs.declared.did.Dropped.TheVariants as dropped
use Rattle.fsoe_base.specs.Did as did
use Rattle.fsoe_base.specs.Did.{takes, resets}
use Rattle.failsafe_io.specs.Timer.{started, expires, ticked}
use Rattle.fsoe_base.specs.Codes.{watchdog_expired}
use Rattle.param_load.specs.declared.entry.Move.{Move}
use Rattle.param_load.specs.declared.entry.Move.TheVariants as move
use Rattle.param_load.specs.declared.slave_settings.SlaveSettings.{SlaveSettings}
use Rattle.seq_chain.specs.declared.opened.Opened.{Opened}
use Rattle.seq_chain.specs.declared.opened.Opened.TheVariants as opened_as
use Rattle.seq_chain.specs.Opened.{opened}
use Rattle.seq_chain.specs.Reset.{reset_frame}
use Rattle.seq_chain.specs.SessionFrame.{SessionFrameView}
use Rattle.end_model.specs.Setup.{OfSlave, sends, receives}
use Rattle.end_model.specs.Verdict.{is_repeat}
use Rattle.end_model.specs.Step.{code_sent}
use Rattle.slave_core.specs.declared.phase.Phase.{Phase}
use Rattle.slave_core.specs.declared.phase.Phase.TheVariants as phase
use Rattle.slave_core.specs.declared.states.InReset.{InReset}
use Rattle.slave_core.specs.Kit.{KitView, first_kit}
use Rattle.slave_core.specs.Phase.{is_reset, kept_in, limit_of, fault}
use Rattle.slave_core.specs.SlaveView.{SlaveView}
use Rattle.slave_core.specs.States.{no_session}
use Rattle.slave_core.specs.Taken.{next_state, reply}

-- what an event leaves, does and sends
pub record Outcome : Type 0 where
  pub slave : SlaveView
  pub did : Did
  pub sent : List ℕ

-- an outcome by its parts
abbrev pub outcome_of : SlaveView → Did → List ℕ → Outcome
outcome_of v done sent = record { slave = v; did = done; sent = sent }

-- a new slave is in state Reset and counts no tick
abbrev pub first_slave : SlaveSettings → SlaveView
first_slave settings = record { kit = first_kit settings; state = phase.Reset no_session; timer = started settings.hand }

-- nothing is done, and nothing is sent
abbrev pub quiet : SlaveView → Outcome
quiet v = outcome_of v did.nothing []

-- a frame is dropped: the slave stays as it is, and nothing is sent
abbrev pub drops : SlaveView → Bool → Dropped → Outcome
drops v passed why = outcome_of v (record (did.dropped why) { passed = passed }) []

-- a slave without its session: in state Reset, with age 0
abbrev pub fallen : SlaveView → SlaveView
fallen v = record v { state = phase.Reset no_session; timer = started v.kit.settings.hand }

-- the session ends for this cause, and a Reset frame with its code is sent
abbrev pub falls : SlaveView → Bool → Cause → Outcome
falls v passed why = outcome_of (fallen v) (resets passed why) (reset_frame (code_sent why) (sends (OfSlave v.kit.settings)))

-- a test fails: in state Reset the frame is dropped, and else the session ends
abbrev pub refuses : SlaveView → Bool → Code → Outcome
refuses v passed x = if is_reset v.state then drops v passed dropped.InReset else falls v passed (reset_cause.Found x)

-- a valid Reset frame is taken in state Reset, and a Reset frame with code 0 is sent
abbrev pub acknowledges : SlaveView → List ℕ → Outcome
acknowledges v load = outcome_of (fallen v) (takes command.Reset load false) (reset_frame 0 (sends (OfSlave v.kit.settings)))

-- a valid Reset frame: in state Reset it is taken, and else the session ends with the peer's code, and code 0 is sent
abbrev pub reset_by_peer : SlaveView → Code → List ℕ → Outcome
reset_by_peer v x load = if is_reset v.state then acknowledges v load else falls v false (reset_cause.Peer x)

-- a slave took a frame of a session, and sent this answer
abbrev pub taken : SlaveView → SessionFrameView → List ℕ → Outcome
taken v f answer = outcome_of v (takes f.command f.frame.load true) answer

-- a frame whose contents were tested is taken and answered, or refused with their code
abbrev pub settles : SlaveView → SessionFrameView → List ℕ → Result Phase (InReset × Code) → Outcome
settles v f answer (Ok next) = taken (record v { state = next; timer = started (limit_of v.kit.settings next) }) f answer
settles v f answer (Err e) = refuses v true e.1

-- a frame of a session is refused by the first of its tests that fails, and else its contents are tested
abbrev pub on_session : SlaveView → SessionFrameView → Option Code → Outcome
on_session v f None = settles v f (reply v.kit v.state f) (next_state v.kit v.state f)
on_session v f (Some x) = refuses v false x

-- a delivered frame, by what the tests that need no session say of it
abbrev pub on_opened : SlaveView → Opened → Outcome
on_opened v (opened_as.Drop why) = drops v false why
on_opened v (opened_as.Refuse x) = refuses v false x
on_opened v (opened_as.ResetFrame x f) = reset_by_peer v x f.load
on_opened v (opened_as.OfSession f) = on_session v f (fault v.state f)

-- a delivered frame of any bytes
abbrev pub on_frame : SlaveView → List ℕ → Outcome
on_frame v bytes = on_opened v (opened (receives (OfSlave v.kit.settings)) (is_repeat (kept_in v.state) bytes) bytes)

-- a tick in a session: where the age reaches the limit the session ends with code 5
abbrev pub tick_in_session : SlaveView → Outcome
tick_in_session v =
    if expires v.timer
    then falls v false (reset_cause.Found watchdog_expired)
    else quiet (record v { timer = ticked v.timer })

-- a tick: in state Reset none is counted
abbrev pub tick_of : SlaveView → Outcome
tick_of v = if is_reset v.state then quiet v else tick_in_session v

-- what outlasts sessions is set, an offer, a hold or a nonce, and nothing else changes
abbrev pub with_kit : SlaveView → KitView → Outcome
with_kit v kit = quiet (record v { kit = kit })

-- the outcome of each event
abbrev pub after : SlaveView → Move → Outcome
after v (move.Deliver bytes) = on_frame v bytes
after v move.Tick = tick_of v
after v move.Local = falls v false reset_cause.Local
after v (move.Put load) = with_kit v (record v.kit { offer = record v.kit.offer { load = load } })
after v (move.Hold failsafe) = with_kit v (record v.kit { offer = record v.kit.offer { held = failsafe } })
after v (move.Nonce id) = with_kit v (record v.kit { nonce = id })
