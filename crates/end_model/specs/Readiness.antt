-- What an end is ready for, by looking back: its state, what it offers, its age and the commands that it allows. The
-- states are those of the public standard; what is allowed in each, and the counting of ticks, is this profile's own.
use Rattle.std.specs.Prelude.{ℕ, suc, ◌-◌, nat_le, List, [], ◌∷◌, Bool, true, false, not, Option, Some, None, if◌then◌else◌, replicate}
use Rattle.fsoe_base.specs.declared.command.State.{State}
use Rattle.fsoe_base.specs.declared.command.State.TheVariants as state
use Rattle.fsoe_base.specs.declared.command.Command.{Command}
use Rattle.fsoe_base.specs.declared.command.Command.TheVariants as command
use Rattle.fsoe_base.specs.declared.did.Took.{Took}
use Rattle.param_load.specs.declared.entry.Move.{Move}
use Rattle.param_load.specs.declared.entry.Move.TheVariants as move
use Rattle.param_load.specs.declared.slave_settings.SlaveSettings.{SlaveSettings}
use Rattle.param_load.specs.declared.terms.Terms.{Terms}
use Rattle.param_load.specs.Payload.{number_at}
use Rattle.end_model.specs.Setup.{Setup, OfMaster, OfSlave, sends}
use Rattle.end_model.specs.Phases.{phase_of, phase_of_frame}
use Rattle.end_model.specs.Deed.{Deed, ticked, is_empty, of_session}
use Rattle.end_model.specs.Chain.{since, own}
use Rattle.end_model.specs.Payloads.{uploaded, whole, terms}

-- the phase of the newest of these frames, Reset where there is none
abbrev pub phase_sent : List (List ℕ) → State
phase_sent [] = state.Reset
phase_sent (f ∷ frames) = phase_of_frame f

-- the phase after a step that took this
abbrev pub phase_after : Option Took → State → State
phase_after None before = before
phase_after (Some t) before = phase_of t.command

-- the phase of the frame that was taken last, Reset frames left out, and Reset where there is none
abbrev pub phase_taken : List Deed → State
phase_taken [] = state.Reset
phase_taken (x ∷ e) = phase_after (of_session x.did.took) (phase_taken e)

-- the state: a master's is the phase of the session's frame that it sent last, a slave's of the one that it took last
abbrev pub state_of : Setup → List Deed → State
state_of (OfMaster ms) e = phase_sent (own (since e))
state_of (OfSlave ss) e = phase_taken (since e)

-- the offer after an event
abbrev pub offer_after : Move → List ℕ → List ℕ
offer_after (move.Put load) before = load
offer_after _ before = before

-- the safe data that were put last, else zeros; resets leave them
abbrev pub offer : Setup → List Deed → List ℕ
offer s [] = replicate (sends s) 0
offer s (x ∷ e) = offer_after x.what (offer s e)

-- whether an end is held after an event
abbrev pub held_after : Move → Bool → Bool
held_after (move.Hold failsafe) before = failsafe
held_after _ before = before

-- whether the end is held: it sends fail-safe data in place of its offer; resets leave it held
abbrev pub held : List Deed → Bool
held [] = false
held (x ∷ e) = held_after x.what (held e)

-- the ticks of an end that sent no frame yet: a master's first tick reaches its limit
abbrev pub first_ticks : Setup → ℕ
first_ticks (OfMaster ms) = ms.watchdog - 1
first_ticks (OfSlave ss) = 0

-- the ticks since the last frame was sent
abbrev pub ticks : Setup → List Deed → ℕ
ticks s [] = first_ticks s
ticks s (x ∷ e) = if is_empty x.sent then ticked x.what (ticks s e) else 0

-- a slave in state Reset counts no ticks
abbrev pub slave_age : State → ℕ → ℕ
slave_age state.Reset n = 0
slave_age _ n = n

-- the age, in ticks since the last frame was sent
abbrev pub age : Setup → List Deed → ℕ
age (OfMaster ms) e = ticks (OfMaster ms) e
age (OfSlave ss) e = slave_age (state_of (OfSlave ss) e) (ticks (OfSlave ss) e)

-- a slave's limit is `hand` until the parameters are whole, then the watchdog among them
abbrev pub slave_limit : SlaveSettings → List ℕ → ℕ
slave_limit ss u = if whole ss.profile state.Parameter u then number_at 2 u else ss.hand

-- the age at which the watchdog expires, in ticks
abbrev pub limit : Setup → List Deed → ℕ
limit (OfMaster ms) e = ms.watchdog
limit (OfSlave ss) e = slave_limit ss (uploaded ss state.Parameter e)

-- whether the next tick of an end that counts it reaches the limit
abbrev pub reaches_limit : Setup → List Deed → Bool
reaches_limit s e = nat_le (limit s e) (suc (age s e))

-- whether a slave allows a command of a session in a state, where `done` says that the payload of its phase is whole
abbrev pub slave_allows : State → Bool → Command → Bool
slave_allows state.Reset done command.Session = true
slave_allows state.Session done command.Session = not done
slave_allows state.Session done command.Connection = done
slave_allows state.Connection done command.Connection = not done
slave_allows state.Connection done command.Parameter = done
slave_allows state.Parameter done command.Parameter = not done
slave_allows state.Parameter done command.ProcessData = done
slave_allows state.Parameter done command.FailSafeData = done
slave_allows state.Data done command.ProcessData = true
slave_allows state.Data done command.FailSafeData = true
slave_allows _ done _ = false

-- whether a master allows a command of a session in a state
abbrev pub master_allows : State → Command → Bool
master_allows state.Session command.Session = true
master_allows state.Connection command.Connection = true
master_allows state.Parameter command.Parameter = true
master_allows state.Data command.ProcessData = true
master_allows state.Data command.FailSafeData = true
master_allows _ _ = false

-- whether a slave has the whole payload of the phase that it is in
abbrev pub upload_is_whole : SlaveSettings → State → List Deed → Bool
upload_is_whole ss now e = whole ss.profile now (uploaded ss now e)

-- whether an end allows a command of a session; Reset frames, which stand outside of each session, have tests of their
-- own
abbrev pub allowed : Setup → List Deed → Command → Bool
allowed (OfMaster ms) e c = master_allows (state_of (OfMaster ms) e) c
allowed (OfSlave ss) e c = slave_allows (state_of (OfSlave ss) e) (upload_is_whole ss (state_of (OfSlave ss) e) e) c

-- terms are told in state Data alone
abbrev pub told_in : State → Terms → Option Terms
told_in state.Data t = Some t
told_in _ t = None

-- the terms that an end tells
abbrev pub told_terms : Setup → List Deed → Option Terms
told_terms s e = told_in (state_of s e) (terms s e)
