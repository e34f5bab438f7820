-- What an event's line says by its word and the fields after it. The causes come in their order: the number of fields,
-- a number, a reference, the hexadecimal bytes, a length, a position.
use Rattle.std.specs.Prelude.{ℕ, ◌==◌, nat_lt, length, slice_index, Bool, true, false, List, [], ◌∷◌, codes, Option, Some, None, Result, Ok, Err, if◌then◌else◌}
use Rattle.std.specs.Str.{bytes_eq}
use Rattle.fsoe_base.specs.Lengths.{frame_len, most_data, most_frame}
use Rattle.fsoe_base.specs.declared.command.End.{End}
use Rattle.fsoe_base.specs.declared.command.End.TheVariants as side
use Rattle.param_load.specs.Profile.{allows_id}
use Rattle.param_load.specs.declared.profile.Profile.{Profile}
use Rattle.schedule_file.specs.Field.{word_in, number_said, bytes_said}
use Rattle.schedule_file.specs.Fields.{◌>>=◌, map_ok, value_or, next_field, no_field, one_field, number_16, number_32, one_hex_field}
use Rattle.schedule_file.specs.Limits.{max_back}
use Rattle.schedule_file.specs.declared.event.Event.{Event}
use Rattle.schedule_file.specs.declared.event.Event.TheVariants as event
use Rattle.schedule_file.specs.declared.event.ScheduleLine.{ScheduleLine}
use Rattle.schedule_file.specs.declared.event.ScheduleLine.TheVariants as line
use Rattle.schedule_file.specs.declared.event_line.EventWord.{EventWord}
use Rattle.schedule_file.specs.declared.event_line.EventWord.TheVariants as event_word
use Rattle.schedule_file.specs.declared.line_cause.LineCause.{LineCause}
use Rattle.schedule_file.specs.declared.line_cause.LineCause.TheVariants as cause

-- off or on
abbrev pub switch_of : List ℕ → Option Bool
switch_of = word_in ((codes "0", false) ∷ (codes "1", true) ∷ [])

-- a number that is not 0
abbrev pub not_zero : Option ℕ → Option ℕ
not_zero None = None
not_zero (Some n) = if n == 0 then None else Some n

-- a reference is a minus and a number from 1 to 64
abbrev pub reference_of : List ℕ → Option ℕ
reference_of [] = None
reference_of (sign ∷ digits) = if sign == 45 then not_zero (number_said max_back digits) else None

-- the number of bytes of a frame that is delivered to an end, where the ends send so many safe data bytes: its peer
-- sent it
abbrev pub delivered_len : (End → ℕ) → End → ℕ
delivered_len sends side.Master = frame_len (sends side.Slave)
delivered_len sends side.Slave = frame_len (sends side.Master)

-- a frame that the peer sent
abbrev pub deliver_line : End → List (List ℕ) → Result Event LineCause
deliver_line to fields = do
  field ← one_field fields
  back ← value_or cause.Reference (reference_of field)
  Ok (event.Deliver to back)

-- a frame that the peer sent with one of its bytes altered
abbrev pub altered_line : End → ℕ → List (List ℕ) → Result Event LineCause
altered_line to delivered fields = do
  reference ← next_field fields
  place ← next_field reference.1
  digits ← one_field place.1
  pos ← number_16 place.0
  back ← value_or cause.Reference (reference_of reference.0)
  mask ← value_or cause.Hex (bytes_said 1 digits)
  if nat_lt pos delivered then Ok (event.Altered to back pos (slice_index mask 0)) else Err cause.Position

-- a word says this by itself
abbrev pub bare_line : {A : Type 0} → A → List (List ℕ) → Result A LineCause
bare_line says fields = map_ok (λ none. says) (no_field fields)

-- a frame of 1 to 255 bytes
abbrev pub raw_line : End → List (List ℕ) → Result Event LineCause
raw_line to fields = map_ok (event.Raw to) (one_hex_field most_frame fields)

-- safe data bytes, exactly as many as the end sends
abbrev pub put_line : End → ℕ → List (List ℕ) → Result Event LineCause
put_line at count fields = do
  bytes ← one_hex_field most_data fields
  if length bytes == count then Ok (event.Put at bytes) else Err cause.Length

-- fail-safe data on or off
abbrev pub hold_line : End → List (List ℕ) → Result Event LineCause
hold_line at fields = do
  field ← one_field fields
  failsafe ← value_or cause.Number (switch_of field)
  Ok (event.Hold at failsafe)

-- a session id that the profile allows
abbrev pub nonce_line : End → Profile → List (List ℕ) → Result Event LineCause
nonce_line at profile fields = do
  field ← one_field fields
  id ← number_32 field
  if allows_id profile id then Ok (event.Nonce at id) else Err cause.Number

-- what a word says of an event at an end with its fields: the ends send so many safe data bytes, and this one has this
-- profile
abbrev pub event_said : (End → ℕ) → Profile → EventWord × End → List (List ℕ) → Result Event LineCause
event_said sends profile (event_word.Deliver, at) fields = deliver_line at fields
event_said sends profile (event_word.Altered, at) fields = altered_line at (delivered_len sends at) fields
event_said sends profile (event_word.Raw, at) fields = raw_line at fields
event_said sends profile (event_word.Tick, at) fields = bare_line (event.Tick at) fields
event_said sends profile (event_word.Put, at) fields = put_line at (sends at) fields
event_said sends profile (event_word.Hold, at) fields = hold_line at fields
event_said sends profile (event_word.Nonce, at) fields = nonce_line at profile fields
event_said sends profile (event_word.Local, at) fields = bare_line (event.Local at) fields

-- what a line says that begins so: the word `end` is that of no event
abbrev pub line_said : List ℕ → List (List ℕ) → Result Event LineCause → Result ScheduleLine LineCause
line_said first fields event = if bytes_eq first (codes "end") then bare_line line.End fields else map_ok line.Step event
