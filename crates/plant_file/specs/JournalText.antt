-- The journal of a plant as text, a line a step. An event of the script stands there as a script has it.
use Rattle.std.specs.Prelude.{ℕ, List, [], ◌∷◌, ◌++◌, codes, decimal}
use Rattle.std.specs.List.{flat_map, join_with_byte}
use Rattle.hex.specs.Hex.{encode_lower}
use Rattle.fsoe_base.specs.declared.command.End.{End}
use Rattle.fsoe_base.specs.declared.command.End.TheVariants as side
use Rattle.schedule_file.specs.EventText.{switch_text}
use Rattle.schedule_file.specs.PairEvent.{end_letter}
use Rattle.plant_model.specs.declared.event.PlantEvent.{PlantEvent}
use Rattle.plant_model.specs.declared.event.PlantEvent.TheVariants as plant_event
use Rattle.plant_model.specs.declared.journal.JournalStep.{JournalStep}
use Rattle.plant_model.specs.declared.journal.JournalStep.TheVariants as journal_step

-- the fields of an event: its word, and what it needs besides
abbrev pub event_fields : PlantEvent → List (List ℕ)
event_fields plant_event.Tick = codes "t" ∷ []
event_fields (plant_event.Put link load) = codes "p" ∷ decimal link ∷ encode_lower load ∷ []
event_fields (plant_event.Hold link failsafe) = codes "h" ∷ decimal link ∷ switch_text failsafe ∷ []
event_fields (plant_event.Local link) = codes "z" ∷ decimal link ∷ []
event_fields (plant_event.Nonce link end id) = codes "n" ∷ decimal link ∷ end_letter end ∷ decimal id ∷ []
event_fields (plant_event.Cut link cut) = codes "cut" ∷ decimal link ∷ switch_text cut ∷ []

-- the line of an event in a script, without its newline: its fields with one space between each two
abbrev pub event_text : PlantEvent → List ℕ
event_text event = join_with_byte 32 (event_fields event)

-- the name of an end
abbrev pub end_word : End → List ℕ
end_word side.Master = codes "master"
end_word side.Slave = codes "slave"

-- bytes as a further field, which isn't there where there are none
abbrev pub bytes_text : List ℕ → List ℕ
bytes_text [] = []
bytes_text bytes = codes " " ++ encode_lower bytes

-- a step, without its newline
abbrev pub step_text : JournalStep → List ℕ
step_text (journal_step.Script event) = event_text event
step_text journal_step.App = codes "app"
step_text (journal_step.Offer link load) = codes "offer " ++ decimal link ++ bytes_text load
step_text (journal_step.Pulled parcel) = codes "pulled " ++ end_word parcel.to.end ++ codes " " ++ decimal parcel.to.link ++ bytes_text parcel.frame

-- the line of a step
abbrev pub step_line : JournalStep → List ℕ
step_line step = step_text step ++ codes "\n"

-- the lines of these steps
abbrev pub journal_text : List JournalStep → List ℕ
journal_text steps = flat_map step_line steps
