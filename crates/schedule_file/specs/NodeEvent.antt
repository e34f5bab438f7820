-- What a line says that stands after the header of a node.
use Rattle.std.specs.Prelude.{List, [], ◌∷◌, ℕ, codes, Option, Result}
use Rattle.fsoe_base.specs.declared.command.End.{End}
use Rattle.param_load.specs.declared.profile.Profile.{Profile}
use Rattle.schedule_file.specs.EventLine.{event_said, line_said}
use Rattle.schedule_file.specs.Field.{fields_of, word_in}
use Rattle.schedule_file.specs.Fields.{◌>>=◌, by_word, value_or}
use Rattle.schedule_file.specs.declared.event.ScheduleLine.{ScheduleLine}
use Rattle.schedule_file.specs.declared.event_line.EventWord.{EventWord}
use Rattle.schedule_file.specs.declared.event_line.EventWord.TheVariants as event_word
use Rattle.schedule_file.specs.declared.line_cause.LineCause.{LineCause}
use Rattle.schedule_file.specs.declared.line_cause.LineCause.TheVariants as cause

-- the word of an event at a node
abbrev pub node_word_of : List ℕ → Option EventWord
node_word_of = word_in (
    (codes "t", event_word.Tick) ∷ (codes "d", event_word.Raw) ∷ (codes "p", event_word.Put) ∷ (codes "h", event_word.Hold)
    ∷ (codes "n", event_word.Nonce) ∷ (codes "z", event_word.Local) ∷ [])

-- what the fields of a line say that begins so to the node at this end, which has this profile
abbrev pub node_said : End → (End → ℕ) → Profile → List ℕ → List (List ℕ) → Result ScheduleLine LineCause
node_said end sends profile first fields = line_said first fields (value_or cause.Word (node_word_of first) >>= λ word. event_said sends profile (word, end) fields)

-- what a line says to this node
abbrev pub node_line : End → (End → ℕ) → Profile → List ℕ → Result ScheduleLine LineCause
node_line end sends profile text = by_word cause.Word (node_said end sends profile) (fields_of text)
