-- What the calls of images mean, newest first, slot by slot. A slot is looked at by itself: nothing of the others is in
-- these words.
use Rattle.std.specs.Prelude.{ℕ, ◌==◌, nat_eq, List, [], ◌∷◌, ◌++◌, replicate, Option, Some, None, if◌then◌else◌}
use Rattle.std.specs.Cmp.Lexicographic.{pointwise}
use Rattle.param_load.specs.declared.entry.Move.{Move}
use Rattle.param_load.specs.declared.entry.Move.TheVariants as move
use Rattle.fsoe_base.specs.Lengths.{frame_len}
use Rattle.end_model.specs.Deed.{Deed, is_empty}
use Rattle.end_model.specs.Setup.{Setup, sends}
use Rattle.end_model.specs.Step.{step, run}
use Rattle.process_image.specs.Image.{bytes_at, with_bytes, input, sampled}
use Rattle.image_file.specs.Places.{Place, Plan, spans_of}
use Rattle.image_file.specs.declared.event.ImageEvent.{ImageEvent}
use Rattle.image_file.specs.declared.event.ImageEvent.TheVariants as image_event

-- the contents of a slot: the bytes of this input image where its frame lies
abbrev pub slot_contents : Place → List ℕ → List ℕ
slot_contents p image = bytes_at p.at_in (spans_of p).len_in image

-- contents are delivered where they aren't those of the sample before
abbrev pub slot_delivery : List ℕ → List ℕ → Option Move
slot_delivery before now = if pointwise nat_eq before now then None else Some (move.Deliver now)

-- a call that names a slot is a move of that slot alone
abbrev pub if_named : ℕ → Place → Move → Option Move
if_named slot p what = if slot == p.number then Some what else None

-- the move of a slot that a call is, after these calls, if it is one; the input image has this size
abbrev pub move_in : ℕ → Place → List ImageEvent → ImageEvent → Option Move
move_in size p calls (image_event.Write at bytes) = None
move_in size p calls image_event.Sample = slot_delivery (slot_contents p (sampled size calls)) (slot_contents p (input size calls))
move_in size p calls image_event.Tick = Some move.Tick
move_in size p calls (image_event.Put slot load) = if_named slot p (move.Put load)
move_in size p calls (image_event.Hold slot failsafe) = if_named slot p (move.Hold failsafe)
move_in size p calls (image_event.Nonce slot id) = if_named slot p (move.Nonce id)
move_in size p calls (image_event.Reset slot) = if_named slot p move.Local

-- moves with one more, if there is one
abbrev pub and_move : Option Move → List Move → List Move
and_move None moves = moves
and_move (Some what) moves = moves ++ what ∷ []

-- the moves of a slot over these calls, the first of which comes first
abbrev pub moves : ℕ → Place → List ImageEvent → List Move
moves size p [] = []
moves size p (call ∷ calls) = and_move (move_in size p calls call) (moves size p calls)

-- what its end did: the run of its moves
abbrev pub slot_deeds : ℕ → Place → List ImageEvent → List Deed
slot_deeds size p calls = run p.setup (moves size p calls)

-- what its end does at its next move
abbrev pub slot_next_deed : ℕ → Place → List ImageEvent → Move → Deed
slot_next_deed size p calls what = step p.setup (slot_deeds size p calls) what

-- the last frame that an end sent, zeros where it sent none
abbrev pub last_frame : Setup → List Deed → List ℕ
last_frame s [] = replicate (frame_len (sends s)) 0
last_frame s (x ∷ e) = if is_empty x.sent then last_frame s e else x.sent

-- the last frame of a slot
abbrev pub slot_frame : ℕ → List ImageEvent → Place → List ℕ
slot_frame size calls p = last_frame p.setup (slot_deeds size p calls)

-- an image with the frame of each of these slots in its place
abbrev pub with_frames : (Place → List ℕ) → List Place → List ℕ → List ℕ
with_frames frame [] image = image
with_frames frame (p ∷ places) image = with_bytes p.at_out (frame p) (with_frames frame places image)

-- the output image: at each slot the last frame that its end sent, and zeros elsewhere
abbrev pub output : Plan → List ImageEvent → List ℕ
output plan calls = with_frames (slot_frame plan.size_in calls) plan.places (replicate plan.size_out 0)
