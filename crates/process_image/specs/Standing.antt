-- What it means that images do what looking back over their calls says.
use Rattle.std.specs.Prelude.{◌≡◌, ◌≤◌, ◌+◌, ℕ, false, List, ◌∷◌, All, map, length, replicate, Option, Some, option_map}
use Rattle.std.specs.List.{AllZip}
use Rattle.fsoe_base.specs.declared.did.Did.{Did}
use Rattle.param_load.specs.declared.entry.Move.TheVariants as move
use Rattle.end_model.specs.Setup.{Setup}
use Rattle.end_model.specs.Deed.{Deed}
use Rattle.end_model.specs.Step.{step}
use Rattle.end_core.specs.Core.{setup_of}
use Rattle.end_core.specs.Standing.{IsAfter}
use Rattle.process_image.specs.Calls.{slot_contents, move_in, slot_deeds, slot_next_deed, slot_frame, output}
use Rattle.image_file.specs.Fault.{IsPlan}
use Rattle.process_image.specs.Image.{bytes_at, input, sampled}
use Rattle.image_file.specs.Places.{Place, Plan, share, spans_of, slot_numbered}
use Rattle.image_file.specs.declared.event.ImageEvent.{ImageEvent}
use Rattle.image_file.specs.declared.event.ImageEvent.TheVariants as image_event
use Rattle.process_image.specs.declared.seat.Seat.{Seat}

-- what contracts see: the slots with their ends, and both images
pub record ImagesView : Type 0 where
  pub seats : List Seat
  pub input : List ℕ
  pub output : List ℕ

-- what the end of each slot is set to
abbrev pub setups_of : ImagesView → List Setup
setups_of v = map (λ seat. setup_of seat.core) v.seats

-- the number of slots
abbrev pub slots_in : ImagesView → ℕ
slots_in v = length (setups_of v)

-- there is a slot of this number
pub record HasSlot (v : ImagesView) (slot : ℕ) : Type 0 where
  pub first : 1 ≤ slot
  pub last : slot ≤ slots_in v

-- a slot of which the end is where its deeds leave it, and which saw the contents of the last sample
pub record IsSeatOf (size : ℕ) (calls : List ImageEvent) (p : Place) (seat : Seat) : Type 0 where
  pub at_in_is : seat.at_in ≡ p.at_in
  pub at_out_is : seat.at_out ≡ p.at_out
  pub end_is : IsAfter p.setup seat.core (slot_deeds size p calls)
  pub seen_is : seat.seen ≡ slot_contents p (sampled size calls)

-- images were made by this plan and stand for these calls: each slot stands for them, and so do both images
pub record StandsFor (plan : Plan) (v : ImagesView) (calls : List ImageEvent) : Type 0 where
  pub made : IsPlan plan
  pub slots : AllZip (IsSeatOf plan.size_in calls) plan.places v.seats
  pub input_is : v.input ≡ input plan.size_in calls
  pub output_is : v.output ≡ output plan calls

-- what stood for some calls stands for these and this one
pub record Follows (old : ImagesView) (call : ImageEvent) (new : ImagesView) : Type 0 where
  pub stands : (plan : Plan) (calls : List ImageEvent) → StandsFor plan old calls → StandsFor plan new (call ∷ calls)

-- what the ends are set to stays, and so do the sizes of both images
pub record Keeps (old new : ImagesView) : Type 0 where
  pub setups : setups_of new ≡ setups_of old
  pub size_in : length new.input ≡ length old.input
  pub size_out : length new.output ≡ length old.output

-- what is told of a slot at a call: what its end did, where the call is a move of it
abbrev pub told : ℕ → List ImageEvent → ImageEvent → Place → Option Did
told size calls call p = option_map (λ what. (slot_next_deed size p calls what).did) (move_in size p calls call)

-- what is told of the slots is this word of each
pub record TellsEach {T : Type 0} (old : ImagesView) (dids : List T) (word : ℕ → List ImageEvent → Place → T) : Type 0 where
  pub told_are : (plan : Plan) (calls : List ImageEvent) → StandsFor plan old calls → dids ≡ map (word plan.size_in calls) plan.places

-- a sample tells of each slot what is told of it
abbrev pub AnswersSample : ImagesView → List (Option Did) → Type 0
AnswersSample old dids = TellsEach old dids (λ size calls. told size calls image_event.Sample)

-- a tick tells of each slot what its end did
abbrev pub AnswersTick : ImagesView → List Did → Type 0
AnswersTick old dids = TellsEach old dids (λ size calls p. (slot_next_deed size p calls move.Tick).did)

-- what is shown of a slot is this word of what its end did
pub record ShowsAt {X : Type 0} (v : ImagesView) (slot : ℕ) (shown : X) (word : Setup → List Deed → X) : Type 0 where
  pub shows : (plan : Plan) (calls : List ImageEvent) → StandsFor plan v calls
      → option_map (λ p. word p.setup (slot_deeds plan.size_in p calls)) (slot_numbered slot plan.places) ≡ Some shown

-- a reset of a slot tells what its end did
abbrev pub AnswersReset : ImagesView → ℕ → Did → Type 0
AnswersReset old slot done = ShowsAt old slot done (λ s e. (step s e move.Local).did)

-- what is shown is this word of the calls
pub record ShowsImage (v : ImagesView) (shown : List ℕ) (word : Plan → List ImageEvent → List ℕ) : Type 0 where
  pub shows : (plan : Plan) (calls : List ImageEvent) → StandsFor plan v calls → shown ≡ word plan calls

-- no slot has a byte among so many of the output image from a place on
abbrev pub IsBeside : ℕ → ℕ → Place → Type 0
IsBeside at len p = share at len p.at_out (spans_of p).len_out ≡ false

-- an output image has at each slot the last frame that its end sent, and zeros beside all slots
pub record HoldsFrames (plan : Plan) (calls : List ImageEvent) (image : List ℕ) : Type 0 where
  pub frames : All (λ p. bytes_at p.at_out (spans_of p).len_out image ≡ slot_frame plan.size_in calls p) plan.places
  pub beside : (at len : ℕ) → at + len ≤ plan.size_out → All (IsBeside at len) plan.places → bytes_at at len image ≡ replicate len 0

-- what is shown is such an image
pub record ShowsFrames (v : ImagesView) (shown : List ℕ) : Type 0 where
  pub shows : (plan : Plan) (calls : List ImageEvent) → StandsFor plan v calls → HoldsFrames plan calls shown
