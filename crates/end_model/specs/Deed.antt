-- What an end did in one step. All that is said of an end looks back over the list of its deeds, newest first. This way
-- of saying it is this profile's own.
use Rattle.std.specs.Prelude.{ℕ, suc, List, [], ◌∷◌, Bool, true, false, Option, Some, None, if◌then◌else◌}
use Rattle.fsoe_base.specs.declared.did.Did.{Did}
use Rattle.fsoe_base.specs.declared.did.Took.{Took}
use Rattle.param_load.specs.declared.entry.Move.{Move}
use Rattle.param_load.specs.declared.entry.Move.TheVariants as move
use Rattle.end_model.specs.Phases.{is_reset}

-- the event, what the end did then, and the frame that it sent, empty where it sent none
pub record Deed : Type 0 where
  pub what : Move
  pub did : Did
  pub sent : List ℕ

-- the bytes that came, if some did
abbrev pub delivered : Move → List ℕ
delivered (move.Deliver bytes) = bytes
delivered _ = []

-- one more where the event is a tick
abbrev pub ticked : Move → ℕ → ℕ
ticked move.Tick n = suc n
ticked _ n = n

-- whether no frame was sent
abbrev pub is_empty : List ℕ → Bool
is_empty [] = true
is_empty (b ∷ bytes) = false

-- the frame of a session that was taken: a Reset frame is none
abbrev pub of_session : Option Took → Option Took
of_session None = None
of_session (Some t) = if is_reset t.command then None else Some t
