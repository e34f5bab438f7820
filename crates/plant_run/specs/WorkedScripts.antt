-- Worked scripts of the worked plant: what they say, and how they stop.
use Rattle.std.specs.Prelude.{◌≡◌, ℕ, true, List, [], ◌∷◌, ◌++◌, codes, length, map, replicate, Some}
use Rattle.schedule_file.specs.Input.{AtEnd, Line, NoApp, NoLine, NoNewline, Refused, Stop, input_read}
use Rattle.schedule_file.specs.declared.line_cause.LineCause.TheVariants as cause
use Rattle.plant_model.specs.Fits.{lengths_in}
use Rattle.plant_run.specs.Reporting.{script_stop}
use Rattle.plant_run.specs.Script.{Script, script_format}
use Rattle.plant_model.specs.Past.{said}
use Rattle.plant_model.specs.WorkedActs.{driving}
use Rattle.plant_model.specs.WorkedPlant.{both_links}
use Rattle.plant_model.specs.declared.event.PlantEvent.TheVariants as plant_event
use Rattle.plant_model.specs.declared.event.PlantLine.TheVariants as script_says

-- what bytes say to the worked plant
abbrev pub script_of : List ℕ → Script
script_of bytes = input_read (script_format (map lengths_in both_links)) bytes

-- what a script says that has this after its first line
abbrev pub script_with : List ℕ → Script
script_with text = script_of (codes "fsoe 1 plant\n" ++ text)

-- how a run of it stops, to which one application is handed in
abbrev pub stop_with : List ℕ → Stop
stop_with text = script_stop (length (said (record { name = codes "zeros"; app = driving } ∷ []) (script_with text).events)) (script_with text)

-- seven ticks, in which the emergency stop is released, and pressed again while its connection is cut
unfoldable pub SevenTicksScript : Type 0
SevenTicksScript =
    script_with (codes "t\np 1 0300\nt\np 1 0000\ncut 1 1\nt\nt\nt\nt\nt\nend\nnothing more\n")
    ≡ record {
      heading = Some (record { lengths = map lengths_in both_links; titled = true });
      lines = 1;
      events = script_says.Step plant_event.Tick
          ∷ script_says.Step (plant_event.Put 1 (3 ∷ 0 ∷ []))
          ∷ script_says.Step plant_event.Tick
          ∷ script_says.Step (plant_event.Put 1 (0 ∷ 0 ∷ []))
          ∷ script_says.Step (plant_event.Cut 1 true)
          ∷ replicate 5 (script_says.Step plant_event.Tick);
      stop = AtEnd;
    }

-- scripts that stop at a line: an application that was used, one that isn't there, a connection that doesn't exist, a
-- line without its newline, and no line where one has to be
unfoldable pub Stops : Type 0
Stops =
    (stop_with (codes "app zeros\napp zeros\n") ≡ Refused 3 NoApp)
    × (stop_with (codes "t\napp mirror\n") ≡ Refused 3 NoApp)
    × (stop_with (codes "z 3\n") ≡ Refused 2 (Line cause.NoLink))
    × (stop_with (codes "t\nend") ≡ Refused 3 NoNewline)
    × (stop_with (codes "t\n") ≡ Refused 3 NoLine)

-- a first line of another command, and no line at all
unfoldable pub NoTitles : Type 0
NoTitles =
    ((script_of (codes "fsoe 1 pair\nend\n")).stop ≡ Refused 1 (Line cause.Header))
    × ((script_of []).stop ≡ Refused 1 NoLine)
