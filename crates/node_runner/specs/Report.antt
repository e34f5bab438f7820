-- The report of a node.
use Rattle.std.specs.Prelude.{◌≡◌, ℕ, ◌+◌, List, [], ◌∷◌, ◌++◌, length, map, codes, decimal, Option, Some, None}
use Rattle.fsoe_base.specs.declared.command.End.{End}
use Rattle.fsoe_base.specs.declared.command.End.TheVariants as side
use Rattle.fsoe_base.specs.declared.command.State.{State}
use Rattle.fsoe_base.specs.declared.did.Did.{Did}
use Rattle.entry_text.specs.EntryText.{entry_text}
use Rattle.schedule_file.specs.Header.{Heading, IsMasterOf, IsSlaveOf}
use Rattle.schedule_file.specs.Input.{Input}
use Rattle.schedule_file.specs.declared.event.Event.{Event}
use Rattle.end_model.specs.Setup.{Setup, OfMaster, OfSlave}
use Rattle.end_model.specs.Deed.{Deed}
use Rattle.end_model.specs.Outputs.{out}
use Rattle.end_model.specs.Readiness.{state_of}
use Rattle.end_model.specs.Step.{run}
use Rattle.file_run.specs.Report.{last_line}
use Rattle.node_runner.specs.Move.{move_of}

-- what an event did, with its number from 1, the state and the outputs after it, and the frame that was sent
abbrev pub step_line : ℕ → Did → State → List ℕ → List ℕ → List ℕ
step_line n did state outputs sent = decimal n ++ codes " " ++ entry_text did state outputs sent ++ codes "\n"

-- the line of a deed after these
abbrev pub deed_line : Setup → List Deed → Deed → List ℕ
deed_line s e x = step_line (length e + 1) x.did (state_of s (x ∷ e)) (out s (x ∷ e)) x.sent

-- the lines of these deeds, oldest first (the list has the newest first); the outputs are those by looking back
abbrev pub deed_lines : Setup → List Deed → List ℕ
deed_lines s [] = []
deed_lines s (x ∷ e) = deed_lines s e ++ deed_line s e x

-- the deeds of an end that is set so over these events
abbrev pub node_deeds : Setup → List Event → List Deed
node_deeds s events = run s (map move_of events)

-- an end is set to what a header says of it
abbrev pub IsSetTo : End → Heading → Setup → Type 0
IsSetTo side.Master h (OfMaster ms) = IsMasterOf h ms
IsSetTo side.Slave h (OfSlave ss) = IsSlaveOf h ss
IsSetTo side.Master h (OfSlave ss) = ⊥
IsSetTo side.Slave h (OfMaster ms) = ⊥

-- the lines of the events at this end, which is set to what the header says; without a whole header there are none
abbrev pub AreLines : End → Option Heading → List Event → List ℕ → Type 0
AreLines end None events text = text ≡ []
AreLines end (Some h) events text = (s : Setup) × IsSetTo end h s × (text ≡ deed_lines s (node_deeds s events))

-- the report of the node at this end: a line for each event, and a last one, which says how the input stops
abbrev pub IsReport : End → Input → List ℕ → Type 0
IsReport end input report = (lines : List ℕ) × AreLines end input.heading input.events lines × (report ≡ lines ++ last_line (length input.events) input.stop)
