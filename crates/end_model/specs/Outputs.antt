-- The outputs of an end: as it shows them in its session, and by looking back over all of its deeds. That they are
-- fail-safe once the watchdog expired is the public standard's; the value 0 of each byte, and the rest, is this
-- profile's own.
use Rattle.std.specs.Prelude.{ℕ, nat_lt, List, [], ◌∷◌, Bool, true, false, ◌&&◌, Option, Some, None, is_some, if◌then◌else◌, replicate}
use Rattle.fsoe_base.specs.declared.command.Command.{Command}
use Rattle.fsoe_base.specs.declared.command.Command.TheVariants as command
use Rattle.fsoe_base.specs.declared.did.Took.{Took}
use Rattle.end_model.specs.Setup.{Setup, receives}
use Rattle.end_model.specs.Deed.{Deed, ticked}
use Rattle.end_model.specs.Chain.{since}
use Rattle.end_model.specs.Payloads.{terms}

-- whether a command carries process data
abbrev pub is_process : Command → Bool
is_process command.ProcessData = true
is_process _ = false

-- the fail-safe value of an end's outputs
abbrev pub zeros : Setup → List ℕ
zeros s = replicate (receives s) 0

-- what a frame that was taken brings
abbrev pub shown : Setup → Option Took → List ℕ → List ℕ
shown s None before = before
shown s (Some t) before = if is_process t.command then t.load else zeros s

-- what the frames of a session brought last
abbrev pub brought : Setup → List Deed → List ℕ
brought s [] = zeros s
brought s (x ∷ e) = shown s x.did.took (brought s e)

-- the outputs: the load of the frame that was taken last in this session where it was ProcessData, else zeros
abbrev pub outputs : Setup → List Deed → List ℕ
outputs s e = brought s (since e)

-- what it brings still n ticks later, where e are the deeds up to it: data, while the ticks are fewer than the watchdog
abbrev pub shown_after : Setup → ℕ → List Deed → Option Took → List ℕ → List ℕ
shown_after s n e None before = before
shown_after s n e (Some t) before = if is_process t.command && nat_lt n (terms s e).watchdog then t.load else zeros s

-- the outputs n ticks after these deeds: zeros after a reset, else what the last deed brings still
abbrev pub out_after : Setup → ℕ → List Deed → List ℕ
out_after s n [] = zeros s
out_after s n (x ∷ e) = if is_some x.did.reset then zeros s else shown_after s n (x ∷ e) x.did.took (out_after s (ticked x.what n) e)

-- the outputs by looking back, with no word of ages, states or limits: the load of the frame that was taken last where
-- it was ProcessData, no reset came after it, and fewer ticks than the watchdog; else zeros
abbrev pub out : Setup → List Deed → List ℕ
out s e = out_after s 0 e
