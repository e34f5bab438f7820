-- What comes at an event to an end of a pair, and what its window hears then.
use Rattle.std.specs.Prelude.{◌≡◌, ℕ, List, ◌∷◌, Some, IfSome, if◌then◌else◌}
use Rattle.param_load.specs.declared.entry.Move.{Move}
use Rattle.param_load.specs.declared.entry.Move.TheVariants as move
use Rattle.black_channel.specs.Altered.{altered, back_th}
use Rattle.black_channel.specs.Window.{WindowView, window_of}
use Rattle.schedule_file.specs.declared.event.Event.{Event}
use Rattle.schedule_file.specs.declared.event.Event.TheVariants as event
use Rattle.end_model.specs.Deed.{delivered, is_empty}
use Rattle.exchange_model.specs.World.{move_from}

-- what an event is to its end, at which these bytes come
abbrev pub move_at : Event → List ℕ → Move
move_at (event.Deliver to back) came = move.Deliver came
move_at (event.Altered to back pos mask) came = move.Deliver came
move_at (event.Raw to frame) came = move.Deliver came
move_at (event.Tick at) came = move.Tick
move_at (event.Put at load) came = move.Put load
move_at (event.Hold at failsafe) came = move.Hold failsafe
move_at (event.Nonce at id) came = move.Nonce id
move_at (event.Local at) came = move.Local

-- these bytes come at an event, by the frames that the peer sent; none where no frame comes
pub record Comes (frames : List (List ℕ)) (event : Event) (came : List ℕ) : Type 0 where
  pub is : move_from frames event ≡ Some (move_at event came)
  pub delivered_is : delivered (move_at event came) ≡ came

-- where an event alters a frame that was sent, this is the frame as it comes
abbrev pub IsAltered : List (List ℕ) → Event → List ℕ → Type 0
IsAltered frames (event.Altered to back pos mask) copy = IfSome (back_th back frames) (λ frame. copy ≡ altered pos mask frame)
IsAltered frames _ copy = Unit {0}

-- a window that stood for the frames of an end stands for these and the frame of a step, if one was sent
pub record Hears (old : WindowView) (frame : List ℕ) (new : WindowView) : Type 0 where
  pub hears : (frames : List (List ℕ)) → old ≡ window_of frames → new ≡ window_of (if is_empty frame then frames else frame ∷ frames)
