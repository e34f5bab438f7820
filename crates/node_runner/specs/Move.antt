-- What an event of a node is to its end.
use Rattle.std.specs.Prelude.{[]}
use Rattle.param_load.specs.declared.entry.Move.{Move}
use Rattle.param_load.specs.declared.entry.Move.TheVariants as move
use Rattle.schedule_file.specs.declared.event.Event.{Event}
use Rattle.schedule_file.specs.declared.event.Event.TheVariants as event

-- the move of an event; a node has no references to frames sent before, so that such an event brings no bytes
abbrev pub move_of : Event → Move
move_of (event.Raw to frame) = move.Deliver frame
move_of (event.Tick at) = move.Tick
move_of (event.Local at) = move.Local
move_of (event.Put at load) = move.Put load
move_of (event.Hold at failsafe) = move.Hold failsafe
move_of (event.Nonce at id) = move.Nonce id
move_of (event.Deliver to back) = move.Deliver []
move_of (event.Altered to back pos mask) = move.Deliver []
