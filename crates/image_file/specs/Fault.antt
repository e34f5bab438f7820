-- Why there are no images with these slots.
use Rattle.std.specs.Prelude.{◌≡◌, ℕ, nat_lt, List, [], ◌∷◌, length, Option, Some, None, if◌then◌else◌, suc}
use Rattle.image_file.specs.Places.{Place, Plan, lie_inside, most_slots, overlap, spans_of, AreNumbered}
use Rattle.image_file.specs.declared.fault.SlotFault.{SlotFault}
use Rattle.image_file.specs.declared.spans.Spans.{Spans}
use Rattle.image_file.specs.declared.fault.SlotFault.TheVariants as fault
use Rattle.image_file.specs.declared.slot.Slot.{Slot}
use Rattle.image_file.specs.declared.header.SlotHeader.{SlotHeader}
use Rattle.image_file.specs.Made.{IsEndOf}
use Rattle.fsoe_base.specs.Lengths.{frame_len}
use Rattle.end_model.specs.Setup.{sends, receives}
use Rattle.end_core.specs.Core.{setup_of}
use Rattle.end_core.specs.Standing.{IsNew}

-- the number of the first of these slots whose frames don't lie inside both images
abbrev pub first_outside : ℕ → ℕ → List Place → Option ℕ
first_outside size_in size_out [] = None
first_outside size_in size_out (p ∷ places) = if lie_inside size_in size_out (spans_of p) then first_outside size_in size_out places else Some p.number

-- the number of the first of these slots that shares a byte with one whose frames take these
abbrev pub first_with : Spans → List Place → Option ℕ
first_with s [] = None
first_with s (q ∷ places) = if overlap s (spans_of q) then Some q.number else first_with s places

-- a slot shares a byte with a later one, or else what is said of the slots after it
abbrev pub pair_or : ℕ → Option ℕ → Option SlotFault → Option SlotFault
pair_or a (Some b) later = Some (fault.Overlap a b)
pair_or a None later = later

-- the first pair of slots that share a byte: that with the least first number, and of those the least second
abbrev pub first_pair : List Place → Option SlotFault
first_pair [] = None
first_pair (p ∷ places) = pair_or p.number (first_with (spans_of p) places) (first_pair places)

-- a slot isn't inside, or else what is said of pairs
abbrev pub outside_or : Option ℕ → Option SlotFault → Option SlotFault
outside_or (Some n) later = Some (fault.Bounds n)
outside_or None later = later

-- the first fault: more than 64 slots, then a slot that isn't inside both images, then two that share a byte
abbrev pub first_fault : Plan → Option SlotFault
first_fault plan =
    if nat_lt most_slots (length plan.places) then Some fault.TooMany
    else outside_or (first_outside plan.size_in plan.size_out plan.places) (first_pair plan.places)

-- there are images with these slots, which are numbered from 1
pub record IsPlan (plan : Plan) : Type 0 where
  pub numbers : AreNumbered 1 plan.places
  pub no_fault : first_fault plan ≡ None

-- the bytes that the frames of a slot take whose end is at hand
abbrev pub slot_spans : Slot → Spans
slot_spans slot = record { at_in = slot.at_in; len_in = frame_len (receives (setup_of slot.core)); at_out = slot.at_out; len_out = frame_len (sends (setup_of slot.core)) }

-- the places of slots, which are numbered from n on
abbrev pub places_from : ℕ → List Slot → List Place
places_from n [] = []
places_from n (slot ∷ slots) = record { number = n; at_in = slot.at_in; at_out = slot.at_out; setup = setup_of slot.core } ∷ places_from (suc n) slots

-- images of these sizes with these slots, which are numbered from 1
abbrev pub plan_of : ℕ → ℕ → List Slot → Plan
plan_of size_in size_out slots = record { size_in = size_in; size_out = size_out; places = places_from 1 slots }

-- a slot is made of a new end as its lines say
pub record IsMadeOf (s : SlotHeader) (slot : Slot) : Type 0 where
  pub at_in_is : slot.at_in ≡ s.at_in
  pub at_out_is : slot.at_out ≡ s.at_out
  pub end_is : IsEndOf s (setup_of slot.core)
  pub new : IsNew slot.core
