-- What a line of a plant's script says that stands after its first line. The causes come in their order: the word, the
-- number of fields, a number, the connection, the hexadecimal bytes, a length.
use Rattle.std.specs.Prelude.{ℕ, ◌==◌, length, Bool, List, [], ◌∷◌, codes, Option, Some, None, Result, Ok, Err, if◌then◌else◌}
use Rattle.fsoe_base.specs.LengthsOf.{length_of}
use Rattle.fsoe_base.specs.declared.command.End.{End}
use Rattle.fsoe_base.specs.declared.command.End.TheVariants as side
use Rattle.fsoe_base.specs.declared.lengths.Lengths.{Lengths}
use Rattle.fsoe_base.specs.Lengths.{most_data}
use Rattle.schedule_file.specs.EventLine.{switch_of, bare_line}
use Rattle.schedule_file.specs.Field.{fields_of, bytes_said, word_in}
use Rattle.schedule_file.specs.Fields.{◌>>=◌, map_ok, value_or, by_word, next_field, one_field, number_16}
use Rattle.schedule_file.specs.declared.line_cause.LineCause.{LineCause}
use Rattle.schedule_file.specs.declared.line_cause.LineCause.TheVariants as cause
use Rattle.plant_model.specs.declared.event.PlantEvent.TheVariants as plant_event
use Rattle.plant_model.specs.declared.event.PlantLine.{PlantLine}
use Rattle.plant_model.specs.declared.event.PlantLine.TheVariants as script_says
use Rattle.plant_run.specs.declared.script_line.PlantWord.{PlantWord}
use Rattle.plant_run.specs.declared.script_line.PlantWord.TheVariants as plant_word
use Rattle.plant_model.specs.Fits.{lengths_at}

-- the word of an event or of an application, or `end`
abbrev pub plant_word_of : List ℕ → Option PlantWord
plant_word_of = word_in (
    (codes "t", plant_word.Tick) ∷ (codes "p", plant_word.Put) ∷ (codes "h", plant_word.Hold) ∷ (codes "z", plant_word.Local)
    ∷ (codes "n", plant_word.Nonce) ∷ (codes "cut", plant_word.Cut) ∷ (codes "app", plant_word.App) ∷ (codes "end", plant_word.End) ∷ [])

-- the end that a letter names
abbrev pub end_of_letter : List ℕ → Option End
end_of_letter = word_in ((codes "m", side.Master) ∷ (codes "s", side.Slave) ∷ [])

-- the lengths of a connection that exists
abbrev pub existing : List Lengths → ℕ → Result Lengths LineCause
existing lengths link = value_or cause.NoLink (lengths_at lengths link)

-- safe data bytes, exactly as many as the slave of a connection sends
abbrev pub plant_put_line : List Lengths → List (List ℕ) → Result PlantLine LineCause
plant_put_line lengths fields = do
  link ← next_field fields
  digits ← one_field link.1
  number ← number_16 link.0
  ends ← existing lengths number
  bytes ← value_or cause.Hex (bytes_said most_data digits)
  if length bytes == length_of ends side.Slave then Ok (script_says.Step (plant_event.Put number bytes)) else Err cause.Length

-- a connection, and off or on
abbrev pub link_and_switch : List Lengths → List (List ℕ) → Result (ℕ × Bool) LineCause
link_and_switch lengths fields = do
  link ← next_field fields
  switch ← one_field link.1
  number ← number_16 link.0
  on ← value_or cause.Number (switch_of switch)
  ends ← existing lengths number
  Ok (number, on)

-- a reset of a slave's own
abbrev pub local_line : List Lengths → List (List ℕ) → Result PlantLine LineCause
local_line lengths fields = do
  link ← one_field fields
  number ← number_16 link
  ends ← existing lengths number
  Ok (script_says.Step (plant_event.Local number))

-- a session id of 16 bits, at the end of a connection that a letter names
abbrev pub plant_nonce_line : List Lengths → List (List ℕ) → Result PlantLine LineCause
plant_nonce_line lengths fields = do
  link ← next_field fields
  letter ← next_field link.1
  digits ← one_field letter.1
  number ← number_16 link.0
  end ← value_or cause.Number (end_of_letter letter.0)
  id ← number_16 digits
  ends ← existing lengths number
  Ok (script_says.Step (plant_event.Nonce number end id))

-- what a word says with its fields, where the connections have these lengths
abbrev pub plant_said : List Lengths → Option PlantWord → List (List ℕ) → Result PlantLine LineCause
plant_said lengths None fields = Err cause.Word
plant_said lengths (Some plant_word.Tick) fields = bare_line (script_says.Step plant_event.Tick) fields
plant_said lengths (Some plant_word.Put) fields = plant_put_line lengths fields
plant_said lengths (Some plant_word.Hold) fields = map_ok (λ said. script_says.Step (plant_event.Hold said.0 said.1)) (link_and_switch lengths fields)
plant_said lengths (Some plant_word.Local) fields = local_line lengths fields
plant_said lengths (Some plant_word.Nonce) fields = plant_nonce_line lengths fields
plant_said lengths (Some plant_word.Cut) fields = map_ok (λ said. script_says.Step (plant_event.Cut said.0 said.1)) (link_and_switch lengths fields)
plant_said lengths (Some plant_word.App) fields = map_ok script_says.App (one_field fields)
plant_said lengths (Some plant_word.End) fields = bare_line script_says.End fields

-- what a line says in the script of a plant whose connections have these lengths
abbrev pub plant_line : List Lengths → List ℕ → Result PlantLine LineCause
plant_line lengths text = by_word cause.Word (λ word. plant_said lengths (plant_word_of word)) (fields_of text)
