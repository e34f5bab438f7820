-- What an event is whose bytes stay where they lie.
use Rattle.std.specs.Prelude.{◌≤◌, length}
use Rattle.fsoe_base.specs.Lengths.{most_data, most_frame}
use Rattle.param_load.specs.declared.entry.Move.{Move}
use Rattle.param_load.specs.declared.entry.Move.TheVariants as move
use Rattle.param_load.specs.declared.move_ref.MoveRef.{MoveRef}
use Rattle.param_load.specs.declared.move_ref.MoveRef.TheVariants as borrowed

-- the event itself
abbrev pub owned_move : MoveRef → Move
owned_move (borrowed.Deliver frame) = move.Deliver frame.now
owned_move borrowed.Tick = move.Tick
owned_move (borrowed.Put load) = move.Put load.now
owned_move (borrowed.Hold failsafe) = move.Hold failsafe
owned_move (borrowed.Nonce id) = move.Nonce id
owned_move borrowed.Local = move.Local

-- a list has room for the bytes of an event
abbrev pub HasShortBytes : Move → Type 0
HasShortBytes (move.Deliver frame) = length frame ≤ most_frame
HasShortBytes (move.Put load) = length load ≤ most_data
HasShortBytes _ = Unit {0}
