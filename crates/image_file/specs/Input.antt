-- How the lines of a file of images are read, one after another.
use Rattle.std.specs.Prelude.{ℕ, nat_le, Bool, List, length, map, Option, Some, None, Result}
use Rattle.schedule_file.specs.Input.{own_length, heading_profile, InputFormat}
use Rattle.schedule_file.specs.declared.line_cause.LineCause.{LineCause}
use Rattle.image_file.specs.EventLine.{image_line}
use Rattle.image_file.specs.Header.{ImageHeading, slots_of, slot_end, image_heading_new, image_heading_after, image_heading_is_whole}
use Rattle.image_file.specs.declared.event.ImageEvent.{ImageEvent}
use Rattle.image_file.specs.declared.event.ImageLine.{ImageLine}
use Rattle.image_file.specs.declared.event.ImageLine.TheVariants as image_says
use Rattle.image_file.specs.declared.event_line.SlotEnd.{SlotEnd}
use Rattle.image_file.specs.declared.header.SlotHeader.{SlotHeader}

-- what lines of events look at of a slot
abbrev pub end_terms : SlotHeader → SlotEnd
end_terms s = record { sends = own_length s.own (slot_end s); profile = heading_profile s.own (slot_end s) }

-- the event of a line, if it is one
abbrev pub event_in : ImageLine → Option ImageEvent
event_in (image_says.Step event) = Some event
event_in image_says.End = None

-- what a line says that stands after a header
abbrev pub image_said_after : ImageHeading → List ℕ → Result ImageLine LineCause
image_said_after h text = image_line h.size_in (map end_terms (slots_of h)) text

-- no event may come after 2,000
abbrev pub image_is_full : ImageHeading → List ImageEvent → Bool
image_is_full h events = nat_le 2000 (length events)

-- how the lines of an input of images are read
abbrev pub image_format : InputFormat ImageHeading ImageLine ImageEvent
image_format = record {
  start = image_heading_new;
  header_line = image_heading_after;
  is_whole = image_heading_is_whole;
  line = image_said_after;
  event = event_in;
  is_full = image_is_full;
}
