-- What the bytes of a plant's script say: the events and applications of its lines, and how it stops. This looks at the
-- lines and at the lengths of the connections alone.
use Rattle.std.specs.Prelude.{ℕ, nat_le, Bool, ◌&&◌, not, true, false, List, length, codes, Option, Some, None, Result, Ok, Err, if◌then◌else◌}
use Rattle.std.specs.Str.{bytes_eq}
use Rattle.fsoe_base.specs.declared.lengths.Lengths.{Lengths}
use Rattle.schedule_file.specs.Input.{InputFormat, InputOf}
use Rattle.schedule_file.specs.declared.line_cause.LineCause.{LineCause}
use Rattle.schedule_file.specs.declared.line_cause.LineCause.TheVariants as cause
use Rattle.plant_run.specs.ScriptLine.{plant_line}
use Rattle.plant_model.specs.declared.event.PlantLine.{PlantLine}
use Rattle.plant_model.specs.declared.event.PlantLine.TheVariants as script_says

-- the header of a script: the lengths of the connections, which are known before, and whether its one line was read
pub record ScriptHeading : Type 0 where
  pub lengths : List Lengths
  pub titled : Bool

-- a header before its line
abbrev pub untitled : List Lengths → ScriptHeading
untitled lengths = record { lengths = lengths; titled = false }

-- that line has to be this one, and no other line is the header's
abbrev pub title_line : ScriptHeading → List ℕ → Result ScriptHeading LineCause
title_line h text = if not h.titled && bytes_eq text (codes "fsoe 1 plant") then Ok (record h { titled = true }) else Err cause.Header

-- what happens at a line, where something does: nothing at the end
abbrev pub happening : PlantLine → Option PlantLine
happening script_says.End = None
happening (script_says.Step event) = Some (script_says.Step event)
happening (script_says.App name) = Some (script_says.App name)

-- no event may come after 2,000
abbrev pub script_is_full : ScriptHeading → List PlantLine → Bool
script_is_full h log = nat_le 2000 (length log)

-- how scripts are read where the connections have these lengths
abbrev pub script_format : List Lengths → InputFormat ScriptHeading PlantLine PlantLine
script_format lengths = record {
  start = untitled lengths;
  header_line = title_line;
  is_whole = λ h. h.titled;
  line = λ h text. plant_line h.lengths text;
  event = happening;
  is_full = script_is_full;
}

-- what a script says
abbrev pub Script : Type 0
Script = InputOf ScriptHeading PlantLine
