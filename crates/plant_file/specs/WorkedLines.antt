-- Worked lines of a journal.
use Rattle.std.specs.Prelude.{◌≡◌, true, false, [], ◌∷◌, codes, map, Ok}
use Rattle.fsoe_base.specs.declared.command.End.TheVariants as side
use Rattle.plant_model.specs.Fits.{lengths_in}
use Rattle.plant_model.specs.WorkedPlant.{both_links}
use Rattle.plant_model.specs.declared.event.PlantEvent.{PlantEvent}
use Rattle.plant_model.specs.declared.event.PlantEvent.TheVariants as plant_event
use Rattle.plant_model.specs.declared.event.PlantLine.TheVariants as script_says
use Rattle.plant_model.specs.declared.journal.JournalStep.TheVariants as journal_step
use Rattle.plant_run.specs.ScriptLine.{plant_line}
use Rattle.plant_file.specs.JournalText.{event_text, journal_text}

-- a journal with a step of each kind, and a parcel without a frame
unfoldable pub StepLines : Type 0
StepLines =
    journal_text (
    journal_step.Script (plant_event.Put 1 (3 ∷ 10 ∷ []))
    ∷ journal_step.Script plant_event.Tick
    ∷ journal_step.Offer 2 (1 ∷ 0 ∷ [])
    ∷ journal_step.Pulled (record { to = record { link = 1; end = side.Slave }; frame = 42 ∷ 0 ∷ 196 ∷ [] })
    ∷ journal_step.App
    ∷ journal_step.Pulled (record { to = record { link = 65535; end = side.Master }; frame = [] })
    ∷ []) ≡ codes "p 1 030a\nt\noffer 2 0100\npulled slave 1 2a00c4\napp\npulled master 65535\n"

-- a script of the worked plant that has the line of this event says the event
abbrev pub IsReadBack : PlantEvent → Type 0
IsReadBack event = plant_line (map lengths_in both_links) (event_text event) ≡ Ok (script_says.Step event)

-- events of each kind are read back
unfoldable pub EventsReadBack : Type 0
EventsReadBack =
    IsReadBack plant_event.Tick
    × IsReadBack (plant_event.Put 1 (3 ∷ 10 ∷ []))
    × IsReadBack (plant_event.Hold 2 true)
    × IsReadBack (plant_event.Local 2)
    × IsReadBack (plant_event.Nonce 1 side.Master 65535)
    × IsReadBack (plant_event.Nonce 2 side.Slave 0)
    × IsReadBack (plant_event.Cut 1 false)
