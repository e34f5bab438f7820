-- What of the calls of a master of many connections is its own at one connection.
use Rattle.std.specs.Prelude.{ℕ, ◌==◌, Bool, true, false, List, [], ◌∷◌, ◌++◌, filter, if◌then◌else◌}
use Rattle.param_load.specs.declared.entry.Move.{Move}
use Rattle.param_load.specs.declared.entry.Move.TheVariants as move
use Rattle.multi_master.specs.Calls.{Call, Deliver, Tick, Reset, Nonce, Hold, ChangeApp}

-- the event of a call at the connection with this number, if it has one there
abbrev pub own_part : ℕ → Call → List Move
own_part k (Deliver link bytes) = if link == k then move.Deliver bytes ∷ [] else []
own_part k Tick = move.Tick ∷ []
own_part k (Reset link) = if link == k then move.Local ∷ [] else []
own_part k (Nonce link id) = if link == k then move.Nonce id ∷ [] else []
own_part k (Hold link on) = if link == k then move.Hold on ∷ [] else []
own_part k (ChangeApp app) = []

-- the events of these calls there, the first of which comes first
abbrev pub own_events : ℕ → List Call → List Move
own_events k [] = []
own_events k (call ∷ calls) = own_events k calls ++ own_part k call

-- whether an event isn't the putting of an offer
abbrev pub is_no_put : Move → Bool
is_no_put (move.Put load) = false
is_no_put _ = true

-- these events without the offers that were put
abbrev pub without_puts : List Move → List Move
without_puts moves = filter is_no_put moves
