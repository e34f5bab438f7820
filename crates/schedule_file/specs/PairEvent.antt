-- What a line says that stands after the header of a pair.
use Rattle.std.specs.Prelude.{List, [], ◌∷◌, ℕ, codes, Option, Result}
use Rattle.fsoe_base.specs.declared.command.End.{End}
use Rattle.fsoe_base.specs.declared.command.End.TheVariants as side
use Rattle.param_load.specs.declared.profile.Profile.{Profile}
use Rattle.schedule_file.specs.EventLine.{event_said, line_said}
use Rattle.schedule_file.specs.Field.{fields_of, word_in}
use Rattle.schedule_file.specs.Fields.{◌>>=◌, by_word, value_or}
use Rattle.schedule_file.specs.declared.event.Event.{Event}
use Rattle.schedule_file.specs.declared.event.ScheduleLine.{ScheduleLine}
use Rattle.schedule_file.specs.declared.event_line.EventWord.{EventWord}
use Rattle.schedule_file.specs.declared.event_line.EventWord.TheVariants as event_word
use Rattle.schedule_file.specs.declared.line_cause.LineCause.{LineCause}
use Rattle.schedule_file.specs.declared.line_cause.LineCause.TheVariants as cause

-- the word of an event with the letter of its end
abbrev pub pair_word_of : List ℕ → Option (EventWord × End)
pair_word_of = word_in (
    (codes "dm", (event_word.Deliver, side.Master)) ∷ (codes "ds", (event_word.Deliver, side.Slave))
    ∷ (codes "am", (event_word.Altered, side.Master)) ∷ (codes "as", (event_word.Altered, side.Slave))
    ∷ (codes "rm", (event_word.Raw, side.Master)) ∷ (codes "rs", (event_word.Raw, side.Slave))
    ∷ (codes "tm", (event_word.Tick, side.Master)) ∷ (codes "ts", (event_word.Tick, side.Slave))
    ∷ (codes "pm", (event_word.Put, side.Master)) ∷ (codes "ps", (event_word.Put, side.Slave))
    ∷ (codes "hm", (event_word.Hold, side.Master)) ∷ (codes "hs", (event_word.Hold, side.Slave))
    ∷ (codes "nm", (event_word.Nonce, side.Master)) ∷ (codes "ns", (event_word.Nonce, side.Slave))
    ∷ (codes "zm", (event_word.Local, side.Master)) ∷ (codes "zs", (event_word.Local, side.Slave)) ∷ [])

-- what a word says of an event with its fields, where the ends send so many safe data bytes and have these profiles
abbrev pub pair_event : (End → ℕ) → (End → Profile) → EventWord × End → List (List ℕ) → Result Event LineCause
pair_event sends profiles word fields = event_said sends (profiles word.1) word fields

-- what the fields of a line say that begins so
abbrev pub pair_said : (End → ℕ) → (End → Profile) → List ℕ → List (List ℕ) → Result ScheduleLine LineCause
pair_said sends profiles first fields = line_said first fields (value_or cause.Word (pair_word_of first) >>= λ word. pair_event sends profiles word fields)

-- what a line says to both ends, which send so many safe data bytes and have these profiles
abbrev pub pair_line : (End → ℕ) → (End → Profile) → List ℕ → Result ScheduleLine LineCause
pair_line sends profiles text = by_word cause.Word (pair_said sends profiles) (fields_of text)

-- the letter that stands for an end in a word, and in a report of both ends
abbrev pub end_letter : End → List ℕ
end_letter side.Master = codes "m"
end_letter side.Slave = codes "s"
