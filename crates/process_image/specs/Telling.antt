-- The text of an event of images: a line for each slot of which the event is a move; and what contracts see of a run.
use Rattle.std.specs.Prelude.{◌≡◌, ◌≤◌, ℕ, ◌+◌, List, length, IfSome, IsTrue, reverse}
use Rattle.fsoe_base.specs.Did.{nothing}
use Rattle.fsoe_base.specs.declared.did.Did.{Did}
use Rattle.param_load.specs.Profile.{allows_id}
use Rattle.end_model.specs.Setup.{sends}
use Rattle.end_model.specs.Runs.{profile_of}
use Rattle.image_file.specs.Places.{Plan, slot_numbered}
use Rattle.process_image.specs.Report.{image_event_lines, image_lines}
use Rattle.image_file.specs.Made.{IsPlanOf}
use Rattle.process_image.specs.Standing.{ImagesView, AnswersReset, StandsFor, Follows, HasSlot, Keeps, setups_of}
use Rattle.image_file.specs.declared.event.ImageEvent.{ImageEvent}
use Rattle.image_file.specs.declared.event.ImageEvent.TheVariants as image_event
use Rattle.image_file.specs.Header.{ImageHeading}
use Rattle.file_run.specs.Waiting.{WaitingText}

-- an event may come to images: bytes lie inside the input image, a slot exists, and its end may be put or given this
abbrev pub FitsImages : ImagesView → ImageEvent → Type 0
FitsImages v (image_event.Write at bytes) = at + length bytes ≤ length v.input
FitsImages v image_event.Sample = Unit {0}
FitsImages v image_event.Tick = Unit {0}
FitsImages v (image_event.Put slot load) = HasSlot v slot × IfSome (slot_numbered slot (setups_of v)) (λ s. length load ≡ sends s)
FitsImages v (image_event.Hold slot failsafe) = HasSlot v slot
FitsImages v (image_event.Nonce slot id) = HasSlot v slot × IfSome (slot_numbered slot (setups_of v)) (λ s. IsTrue (allows_id (profile_of s) id))
FitsImages v (image_event.Reset slot) = HasSlot v slot

-- the slot that an event names, and 0 where it names none
abbrev pub slot_in : ImageEvent → ℕ
slot_in (image_event.Put slot load) = slot
slot_in (image_event.Hold slot failsafe) = slot
slot_in (image_event.Nonce slot id) = slot
slot_in (image_event.Reset slot) = slot
slot_in other = 0

-- this is what the end of the slot did that an event names
abbrev pub IsDidOf : ImagesView → ImageEvent → Did → Type 0
IsDidOf v (image_event.Reset slot) did = AnswersReset v slot did
IsDidOf v other did = did ≡ nothing

-- the text of an event of this number that comes to images
pub record TellsEvent (old : ImagesView) (event : ImageEvent) (number : ℕ) (text : List ℕ) : Type 0 where
  pub lines : (plan : Plan) (calls : List ImageEvent) → StandsFor plan old calls → number ≡ length calls + 1 → text ≡ image_event_lines plan.size_in calls event plan.places

-- an event of this number came to images, of which this is the text; all else stays as it was
pub record DoesEvent (old : ImagesView) (event : ImageEvent) (number : ℕ) (new : ImagesView) (text : List ℕ) : Type 0 where
  pub follows : Follows old event new
  pub tells : TellsEvent old event number text
  pub keeps : Keeps old new

-- what contracts see of images that run: the images, and the text of the last event
pub record RunView : Type 0 where
  pub images : ImagesView
  pub waiting : WaitingText

-- images that were made as a header says stand for these events, of which this text has the lines
pub record RunStands (v : ImagesView) (h : ImageHeading) (log : List ImageEvent) (text : List ℕ) : Type 0 where
  pub plan : Plan
  pub made : IsPlanOf h plan
  pub images : StandsFor plan v (reverse log)
  pub lines : text ≡ image_lines plan (reverse log)
  pub size_in : length v.input ≡ plan.size_in
