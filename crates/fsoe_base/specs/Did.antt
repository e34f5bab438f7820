-- What a step did.
use Rattle.std.specs.Prelude.{ℕ, Bool, true, false, not, ◌&&◌, List, Some, None, is_some}
use Rattle.fsoe_base.specs.declared.command.Command.{Command}
use Rattle.fsoe_base.specs.declared.did.Cause.{Cause}
use Rattle.fsoe_base.specs.declared.did.Did.{Did}
use Rattle.fsoe_base.specs.declared.did.Dropped.{Dropped}

-- nothing happened
abbrev pub nothing : Did
nothing = record { took = None; passed = false; sent = false; reset = None; dropped = None }

-- a frame was dropped that didn't pass the CRC test of a session
abbrev pub dropped : Dropped → Did
dropped why = record { took = None; passed = false; sent = false; reset = None; dropped = Some why }

-- a frame was taken, and one was sent; `passed` says whether the test of the CRCs of a session was passed
abbrev pub takes : Command → List ℕ → Bool → Did
takes c load passed = record { took = Some (record { command = c; load = load }); passed = passed; sent = true; reset = None; dropped = None }

-- the end went to state Reset, and a Reset frame was sent; `passed` is as above
abbrev pub resets : Bool → Cause → Did
resets passed why = record { took = None; passed = passed; sent = true; reset = Some why; dropped = None }

-- at most one of what was taken, a reset and a drop is told
abbrev pub at_most_one : Did → Bool
at_most_one d = not (is_some d.took && is_some d.reset) && not (is_some d.took && is_some d.dropped) && not (is_some d.reset && is_some d.dropped)
