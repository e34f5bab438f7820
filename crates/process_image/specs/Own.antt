-- What the moves of a slot are, said another way: which of its contents are delivered, and which samples change
-- nothing.
use Rattle.std.specs.Prelude.{ℕ, ◌+◌, ◌≤◌, nat_eq, List, [], ◌∷◌, ◌++◌, length, if◌then◌else◌}
use Rattle.std.specs.Cmp.Lexicographic.{pointwise}
use Rattle.param_load.specs.declared.entry.Move.{Move}
use Rattle.param_load.specs.declared.entry.Move.TheVariants as move
use Rattle.process_image.specs.Calls.{slot_contents}
use Rattle.process_image.specs.Image.{input}
use Rattle.image_file.specs.Places.{Place}
use Rattle.image_file.specs.declared.event.ImageEvent.{ImageEvent}
use Rattle.image_file.specs.declared.event.ImageEvent.TheVariants as image_event

-- nothing was written after the last sample, nor at all where there was none
abbrev pub Unwritten : List ImageEvent → Type 0
Unwritten [] = Unit {0}
Unwritten (image_event.Sample ∷ calls) = Unit {0}
Unwritten (image_event.Write at bytes ∷ calls) = ⊥
Unwritten (_ ∷ calls) = Unwritten calls

-- the contents of a slot at each sample, the first of which comes first
abbrev pub at_samples : ℕ → Place → List ImageEvent → List (List ℕ)
at_samples size p [] = []
at_samples size p (image_event.Sample ∷ calls) = at_samples size p calls ++ slot_contents p (input size calls) ∷ []
at_samples size p (_ ∷ calls) = at_samples size p calls

-- a list without those that equal the one before them, where this comes before the first
abbrev pub distinct_after : List ℕ → List (List ℕ) → List (List ℕ)
distinct_after before [] = []
distinct_after before (now ∷ later) = if pointwise nat_eq before now then distinct_after now later else now ∷ distinct_after now later

-- the frames that these moves deliver
abbrev pub frames_in : List Move → List (List ℕ)
frames_in [] = []
frames_in (move.Deliver bytes ∷ moves) = bytes ∷ frames_in moves
frames_in (_ ∷ moves) = frames_in moves

-- each write lies inside an input image of this size
abbrev pub WritesFit : ℕ → List ImageEvent → Type 0
WritesFit size [] = Unit {0}
WritesFit size (image_event.Write at bytes ∷ calls) = (at + length bytes ≤ size) × WritesFit size calls
WritesFit size (_ ∷ calls) = WritesFit size calls
