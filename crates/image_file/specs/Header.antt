-- A header of images as far as it is read: its first line, its `size`, and for each slot a `slot` line and the lines
-- that the header of a node has between its first line and `go`, which are read as those of such a header. At last
-- comes `go`.
use Rattle.std.specs.Prelude.{ℕ, ◌+◌, ◌==◌, ◌&&◌, not, nat_le, Bool, true, false, length, List, [], ◌∷◌, ◌++◌, codes, Result, Ok, Err, if◌then◌else◌}
use Rattle.std.specs.List.{list_any}
use Rattle.std.specs.Str.{bytes_eq}
use Rattle.fsoe_base.specs.Lengths.{frame_len}
use Rattle.fsoe_base.specs.declared.command.End.{End}
use Rattle.fsoe_base.specs.declared.command.End.TheVariants as side
use Rattle.schedule_file.specs.EventLine.{delivered_len}
use Rattle.schedule_file.specs.Field.{fields_of}
use Rattle.schedule_file.specs.Fields.{◌>>=◌, by_word, next_field, one_field, number_16}
use Rattle.schedule_file.specs.Header.{heading_is_whole, wants_profile}
use Rattle.schedule_file.specs.Input.{own_length}
use Rattle.schedule_file.specs.NodeHeader.{heading_begun, node_heading_after, is_end_line, may_end}
use Rattle.schedule_file.specs.declared.header_kind.HeaderKind.{HeaderKind}
use Rattle.schedule_file.specs.declared.header_kind.HeaderKind.TheVariants as header_kind
use Rattle.schedule_file.specs.declared.line_cause.LineCause.{LineCause}
use Rattle.schedule_file.specs.declared.line_cause.LineCause.TheVariants as cause
use Rattle.image_file.specs.Places.{lie_inside, most_slots, overlap}
use Rattle.image_file.specs.declared.header.SlotHeader.{SlotHeader}
use Rattle.image_file.specs.declared.header.Stage.{Stage}
use Rattle.image_file.specs.declared.header.Stage.TheVariants as image_stage
use Rattle.image_file.specs.declared.spans.Spans.{Spans}

-- a header after the lines that were read: the sizes of the images, the slots before the last one, and the last one;
-- before the lines that say them, the sizes and the last slot stand for nothing
pub record ImageHeading : Type 0 where
  pub stage : Stage
  pub size_in : ℕ
  pub size_out : ℕ
  pub before : List SlotHeader
  pub last : SlotHeader

-- a slot of which its own line alone is read: the `lengths` of its end come next
abbrev pub slot_begun : ℕ → ℕ → SlotHeader
slot_begun at_in at_out = record { at_in = at_in; at_out = at_out; own = heading_begun }

-- a header of which no line is read
abbrev pub image_heading_new : ImageHeading
image_heading_new = record { stage = image_stage.Start; size_in = 1; size_out = 1; before = []; last = slot_begun 0 0 }

-- after `go`
abbrev pub image_is_done : Stage → Bool
image_is_done image_stage.Done = true
image_is_done other = false

-- a header is done once its line `go` is read
abbrev pub image_heading_is_whole : ImageHeading → Bool
image_heading_is_whole h = image_is_done h.stage

-- the slots whose lines were read, those of the last one maybe not all
abbrev pub slots_begun : Stage → List SlotHeader → SlotHeader → List SlotHeader
slots_begun image_stage.Slots before last = before ++ last ∷ []
slots_begun image_stage.Done before last = before ++ last ∷ []
slots_begun other before last = []

abbrev pub slots_of : ImageHeading → List SlotHeader
slots_of h = slots_begun h.stage h.before h.last

-- the end of a slot, once its `master` or `slave` line is read
abbrev pub end_of_kind : HeaderKind → End
end_of_kind (header_kind.Node end) = end
end_of_kind header_kind.Pair = side.Slave

-- the end of a slot
abbrev pub slot_end : SlotHeader → End
slot_end s = end_of_kind s.own.kind

-- the bytes that the frames of a slot take: the frames of its peer come in, and its own go out
abbrev pub heading_spans : SlotHeader → Spans
heading_spans s = record { at_in = s.at_in; len_in = delivered_len (own_length s.own) (slot_end s); at_out = s.at_out; len_out = frame_len (own_length s.own (slot_end s)) }

-- an image has from 1 to 4,096 bytes
abbrev pub is_size : ℕ → Bool
is_size n = nat_le 1 n && nat_le n 4096

-- two numbers
abbrev pub two_numbers : List (List ℕ) → Result (ℕ × ℕ) LineCause
two_numbers fields = do
  first ← next_field fields
  second ← one_field first.1
  one ← number_16 first.0
  other ← number_16 second
  Ok (one, other)

-- the sizes of both images
abbrev pub size_line : List (List ℕ) → Result (ℕ × ℕ) LineCause
size_line fields = do
  sizes ← two_numbers fields
  if is_size sizes.0 && is_size sizes.1 then Ok sizes else Err cause.Range

-- the slot of a number, from 1 in their order to 64: where its frames begin in both images
abbrev pub slot_line : ℕ → List (List ℕ) → Result (ℕ × ℕ) LineCause
slot_line number fields = do
  first ← next_field fields
  places ← two_numbers first.1
  n ← number_16 first.0
  if n == number && nat_le n most_slots then Ok places else Err cause.Range

-- a header after its `size` line
abbrev pub size_taken : ImageHeading → List (List ℕ) → Result ImageHeading LineCause
size_taken h fields = do
  sizes ← size_line fields
  Ok (record h { stage = image_stage.Size; size_in = sizes.0; size_out = sizes.1 })

-- the end of a slot has its `profile` line still to come
abbrev pub is_open : SlotHeader → Bool
is_open s = wants_profile s.own.place s.own.master s.own.slave

-- a header after a `slot` line; where the end before has its `profile` line still to come, it is out of range
abbrev pub slot_taken : ImageHeading → List (List ℕ) → Result ImageHeading LineCause
slot_taken h fields = do
  places ← slot_line (length (slots_of h) + 1) fields
  if is_open h.last then Err cause.Range else Ok (record h { stage = image_stage.Slots; before = slots_of h; last = slot_begun places.0 places.1 })

-- the frames of a slot lie inside both images, and share no byte with a slot before
abbrev pub fits_images : ImageHeading → SlotHeader → Bool
fits_images h s = lie_inside h.size_in h.size_out (heading_spans s) && not (list_any (λ t. overlap (heading_spans t) (heading_spans s)) h.before)

-- a header with these lines of its last slot: its frames are tested at the `master` or the `slave` line, which says
-- which length stands in which image; with `go` the header is done
abbrev pub with_last_slot : ImageHeading → SlotHeader → Result ImageHeading LineCause
with_last_slot h s =
    if is_end_line s.own.place && not (fits_images h s) then Err cause.Range
    else Ok (record h { stage = if heading_is_whole s.own then image_stage.Done else image_stage.Slots; last = s })

-- a header after a line of its last slot
abbrev pub own_taken : ImageHeading → List ℕ → Result ImageHeading LineCause
own_taken h text = do
  own ← node_heading_after h.last.own text
  with_last_slot h (record h.last { own = own })

-- a header after a line, by its first field and those after it: after the title comes `size`, then the first `slot`,
-- and where the lines of a slot may end the next one
abbrev pub image_line_taken : Stage → ImageHeading → List ℕ → List ℕ → List (List ℕ) → Result ImageHeading LineCause
image_line_taken image_stage.Start h text first fields = if bytes_eq text (codes "fsoe 1 image") then Ok (record h { stage = image_stage.Title }) else Err cause.Header
image_line_taken image_stage.Title h text first fields = if bytes_eq first (codes "size") then size_taken h fields else Err cause.Header
image_line_taken image_stage.Size h text first fields = if bytes_eq first (codes "slot") then slot_taken h fields else Err cause.Header
image_line_taken image_stage.Slots h text first fields = if bytes_eq first (codes "slot") && may_end h.last.own then slot_taken h fields else own_taken h text
image_line_taken other h text first fields = Err cause.Header

-- a header after its next line, or why that line is refused
abbrev pub image_heading_after : ImageHeading → List ℕ → Result ImageHeading LineCause
image_heading_after h text = by_word cause.Header (image_line_taken h.stage h text) (fields_of text)
