-- The report of images.
use Rattle.std.specs.Prelude.{◌≡◌, ℕ, ◌+◌, List, [], ◌∷◌, ◌++◌, length, reverse, codes, decimal, Option, Some, None}
use Rattle.hex.specs.Hex.{encode_lower}
use Rattle.entry_text.specs.EntryText.{entry_text}
use Rattle.param_load.specs.declared.entry.Move.{Move}
use Rattle.schedule_file.specs.Input.{Stop, AtEnd, Refused}
use Rattle.file_run.specs.Report.{events_line, refused_line, last_line}
use Rattle.end_model.specs.Deed.{Deed}
use Rattle.end_model.specs.Outputs.{out}
use Rattle.end_model.specs.Readiness.{state_of}
use Rattle.process_image.specs.Calls.{move_in, slot_deeds, slot_next_deed, output}
use Rattle.image_file.specs.Header.{ImageHeading}
use Rattle.image_file.specs.Made.{IsPlanOf}
use Rattle.image_file.specs.Places.{Place, Plan}
use Rattle.image_file.specs.declared.event.ImageEvent.{ImageEvent}

-- the line of what the end of a slot did at the event of this number, with the state and the outputs after it, and the
-- frame that it sent
abbrev pub slot_entry_line : ℕ → Place → List Deed → Deed → List ℕ
slot_entry_line n p e x = decimal n ++ codes " " ++ decimal p.number ++ codes " " ++ entry_text x.did (state_of p.setup (x ∷ e)) (out p.setup (x ∷ e)) x.sent ++ codes "\n"

-- the line of a slot at an event, where that is a move of it
abbrev pub move_line : ℕ → ℕ → Place → List ImageEvent → Option Move → List ℕ
move_line n size p calls None = []
move_line n size p calls (Some what) = slot_entry_line n p (slot_deeds size p calls) (slot_next_deed size p calls what)

-- the lines of an event after these: one for each slot of which it is a move, in their order
abbrev pub image_event_lines : ℕ → List ImageEvent → ImageEvent → List Place → List ℕ
image_event_lines size calls event [] = []
image_event_lines size calls event (p ∷ places) = move_line (length calls + 1) size p calls (move_in size p calls event) ++ image_event_lines size calls event places

-- the lines of these events, of which the newest stands first and has the last lines
abbrev pub image_lines : Plan → List ImageEvent → List ℕ
image_lines plan [] = []
image_lines plan (event ∷ calls) = image_lines plan calls ++ image_event_lines plan.size_in calls event plan.places

-- the last lines: at `end` the number of events and the output image, else the line that is refused
abbrev pub image_last_lines : Plan → List ImageEvent → Stop → List ℕ
image_last_lines plan calls AtEnd = events_line (length calls) ++ codes "out " ++ encode_lower (output plan calls) ++ codes "\n"
image_last_lines plan calls (Refused number why) = refused_line number why

-- the report of images that were made so over these events, newest first
abbrev pub image_report : Plan → List ImageEvent → Stop → List ℕ
image_report plan calls stop = image_lines plan calls ++ image_last_lines plan calls stop

-- the report of an input with this header, these events and this stop: without a whole header there is only the line
-- that is refused
abbrev pub IsImageReport : Option ImageHeading → List ImageEvent → Stop → List ℕ → Type 0
IsImageReport None events stop text = text ≡ last_line 0 stop
IsImageReport (Some h) events stop text = (plan : Plan) × IsPlanOf h plan × (text ≡ image_report plan (reverse events) stop)
