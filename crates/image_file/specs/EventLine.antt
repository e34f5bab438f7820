-- What a line says that stands after the header of images. The causes come in their order: the word, the number of
-- fields, a number, a slot that doesn't exist, the hexadecimal bytes, a length, a position.
use Rattle.std.specs.Prelude.{◌≡◌, ℕ, ◌+◌, ◌==◌, nat_le, length, List, [], ◌∷◌, codes, Option, Some, None, Result, Ok, Err, MatchResult, if◌then◌else◌}
use denote.Ref.{Bor}
use Rattle.fsoe_base.specs.Lengths.{most_data}
use Rattle.param_load.specs.Profile.{allows_id}
use Rattle.schedule_file.specs.EventLine.{switch_of, bare_line}
use Rattle.schedule_file.specs.Field.{bytes_said, fields_of, word_in}
use Rattle.schedule_file.specs.Fields.{◌>>=◌, value_or, by_word, next_field, one_field, number_16, number_32}
use Rattle.schedule_file.specs.declared.line_cause.LineCause.{LineCause}
use Rattle.schedule_file.specs.declared.line_cause.LineCause.TheVariants as cause
use Rattle.image_file.specs.Places.{slot_numbered}
use Rattle.image_file.specs.declared.event.ImageEvent.TheVariants as image_event
use Rattle.image_file.specs.declared.event.ImageLine.{ImageLine}
use Rattle.image_file.specs.declared.event.ImageLine.TheVariants as image_says
use Rattle.image_file.specs.declared.event_line.SlotEnd.{SlotEnd}
use Rattle.image_file.specs.declared.event_line.Word.{Word}
use Rattle.image_file.specs.declared.event_line.Word.TheVariants as image_word

-- the word of an event, or `end`
abbrev pub word_of : List ℕ → Option Word
word_of = word_in (
    (codes "w", image_word.Write) ∷ (codes "s", image_word.Sample) ∷ (codes "t", image_word.Tick) ∷ (codes "p", image_word.Put)
    ∷ (codes "h", image_word.Hold) ∷ (codes "n", image_word.Nonce) ∷ (codes "z", image_word.Reset) ∷ (codes "end", image_word.End) ∷ [])

-- the end of the slot of this number
abbrev pub end_at : ℕ → List SlotEnd → Result SlotEnd LineCause
end_at slot ends = value_or cause.NoLink (slot_numbered slot ends)

-- bytes from a place on, which lie inside an input image of this size
abbrev pub written_at : ℕ → List ℕ → ℕ → Result ImageLine LineCause
written_at size bytes at = if nat_le (at + length bytes) size then Ok (image_says.Step (image_event.Write at bytes)) else Err cause.Position

-- a place with these fields behind it, which are one: from 1 to 256 bytes, which lie inside the input image from the
-- place on
abbrev pub write_behind : ℕ → List ℕ → List (List ℕ) → Result ImageLine LineCause
write_behind size place fields = do
  digits ← one_field fields
  at ← number_16 place
  bytes ← value_or cause.Hex (bytes_said 256 digits)
  written_at size bytes at

-- bytes that are written
abbrev pub write_line : ℕ → List (List ℕ) → Result ImageLine LineCause
write_line size fields = do
  place ← next_field fields
  write_behind size place.0 place.1

-- the number of a slot, and the one field behind it
abbrev pub slot_and_field : List (List ℕ) → Result (ℕ × List ℕ) LineCause
slot_and_field fields = do
  first ← next_field fields
  field ← one_field first.1
  slot ← number_16 first.0
  Ok (slot, field)

-- parts of a line that are the number and the field that are said
abbrev pub IsSlotAndField : Result (ℕ × Bor (List ℕ)) LineCause → Result (ℕ × List ℕ) LineCause → Type 0
IsSlotAndField result said = MatchResult result (λ it. said ≡ Ok (it.0, it.1.now)) (λ cause. said ≡ Err cause)

-- safe data bytes, exactly as many as the end of the slot sends
abbrev pub slot_put_line : List SlotEnd → List (List ℕ) → Result ImageLine LineCause
slot_put_line ends fields = do
  first ← slot_and_field fields
  end ← end_at first.0 ends
  bytes ← value_or cause.Hex (bytes_said most_data first.1)
  if length bytes == end.sends then Ok (image_says.Step (image_event.Put first.0 bytes)) else Err cause.Length

-- fail-safe data on or off
abbrev pub slot_hold_line : List SlotEnd → List (List ℕ) → Result ImageLine LineCause
slot_hold_line ends fields = do
  first ← slot_and_field fields
  failsafe ← value_or cause.Number (switch_of first.1)
  end ← end_at first.0 ends
  Ok (image_says.Step (image_event.Hold first.0 failsafe))

-- a session id that the profile of the slot's end allows; of a slot that doesn't exist an id above 65,535 is no number,
-- and any other finds no slot
abbrev pub id_at : Option SlotEnd → ℕ → ℕ → Result ImageLine LineCause
id_at None slot id = if nat_le id 65535 then Err cause.NoLink else Err cause.Number
id_at (Some end) slot id = if allows_id (end.profile) id then Ok (image_says.Step (image_event.Nonce slot id)) else Err cause.Number

-- a session id for the end of a slot
abbrev pub slot_nonce_line : List SlotEnd → List (List ℕ) → Result ImageLine LineCause
slot_nonce_line ends fields = do
  first ← slot_and_field fields
  id ← number_32 first.1
  id_at (slot_numbered first.0 ends) first.0 id

-- the slot that resets itself
abbrev pub reset_line : List SlotEnd → List (List ℕ) → Result ImageLine LineCause
reset_line ends fields = do
  field ← one_field fields
  slot ← number_16 field
  end ← end_at slot ends
  Ok (image_says.Step (image_event.Reset slot))

-- what a word says with its fields, where the input image has this size and the ends of the slots have these terms
abbrev pub image_said : ℕ → List SlotEnd → Option Word → List (List ℕ) → Result ImageLine LineCause
image_said size ends None fields = Err cause.Word
image_said size ends (Some image_word.Write) fields = write_line size fields
image_said size ends (Some image_word.Sample) fields = bare_line (image_says.Step image_event.Sample) fields
image_said size ends (Some image_word.Tick) fields = bare_line (image_says.Step image_event.Tick) fields
image_said size ends (Some image_word.Put) fields = slot_put_line ends fields
image_said size ends (Some image_word.Hold) fields = slot_hold_line ends fields
image_said size ends (Some image_word.Nonce) fields = slot_nonce_line ends fields
image_said size ends (Some image_word.Reset) fields = reset_line ends fields
image_said size ends (Some image_word.End) fields = bare_line image_says.End fields

-- what a line says to images
abbrev pub image_line : ℕ → List SlotEnd → List ℕ → Result ImageLine LineCause
image_line size ends text = by_word cause.Word (λ word. image_said size ends (word_of word)) (fields_of text)
