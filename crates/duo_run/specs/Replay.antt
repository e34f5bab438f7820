-- What a replay reports of an input: a line for each entry of both ends, and last how the run stops; and what holds of
-- its entries: fair before the first other entry, and serving after an honest schedule. Lists of entries are newest
-- first.
use Rattle.std.specs.Prelude.{◌≡◌, ℕ, ◌+◌, ◌==◌, List, [], ◌∷◌, ◌++◌, length, codes, decimal, true, Option, Some, None, IfSome, if◌then◌else◌}
use Rattle.fsoe_base.specs.declared.command.End.{End}
use Rattle.fsoe_base.specs.declared.command.State.{State}
use Rattle.fsoe_base.specs.declared.did.Did.{Did}
use Rattle.fsoe_io.specs.declared.status.Ended.{Ended}
use Rattle.fsoe_io.specs.declared.status.Status.TheVariants as status
use Rattle.param_load.specs.declared.entry.Entry.{Entry}
use Rattle.param_load.specs.declared.master_settings.MasterSettings.{MasterSettings}
use Rattle.param_load.specs.declared.slave_settings.SlaveSettings.{SlaveSettings}
use Rattle.entry_text.specs.EntryText.{entry_text}
use Rattle.schedule_file.specs.PairEvent.{end_letter}
use Rattle.schedule_file.specs.Header.{Heading, IsMasterOf, IsSlaveOf}
use Rattle.schedule_file.specs.Input.{Input, InputOf, NoFrame, Stop, AtEnd, Refused, input_of, schedule_format}
use Rattle.schedule_file.specs.declared.header_kind.HeaderKind.TheVariants as header_kind
use Rattle.schedule_file.specs.declared.event.Event.{Event}
use Rattle.schedule_file.specs.declared.event.ScheduleLine.{ScheduleLine}
use Rattle.file_run.specs.Outside.{Outside}
use Rattle.file_run.specs.Ran.{RanOver}
use Rattle.file_run.specs.Report.{ended_with, events_line, other_line, refused_line}
use Rattle.file_run.specs.Reporting.{Reporting, Never}
use Rattle.exchange_model.specs.Fair.{Fair}
use Rattle.exchange_model.specs.Honest.{Match, IsHonest, IsSteady}
use Rattle.exchange_model.specs.Other.{before_other, first_other}
use Rattle.exchange_model.specs.Serving.{Serves, ServesSteadily}
use Rattle.exchange_model.specs.World.{world}

-- the end of the line of an entry with these parts: the letter of its end, and what every report writes of an entry
abbrev pub told_line : End → Did → State → List ℕ → List ℕ → List ℕ
told_line at did state outputs sent = end_letter at ++ codes " " ++ entry_text did state outputs sent ++ codes "\n"

-- the line of an entry, with its number from 1
abbrev pub entry_line : ℕ → Entry → List ℕ
entry_line n x = decimal n ++ codes " " ++ told_line x.end x.did x.state x.outputs x.sent

-- the lines of these entries, oldest first
abbrev pub entry_lines : List Entry → List ℕ
entry_lines [] = []
entry_lines (x ∷ w) = entry_lines w ++ entry_line (length w + 1) x

-- the last lines of a run of these entries, which stops so
abbrev pub last_lines : List Entry → Stop → List ℕ
last_lines w AtEnd = events_line (length w) ++ other_line (first_other w)
last_lines w (Refused number why) = refused_line number why

-- how a run of these entries ends that stops so, where neither a read nor a write failed
abbrev pub pair_ended_at : List Entry → Stop → Ended
pair_ended_at w AtEnd = ended_with (first_other w)
pair_ended_at w (Refused number why) = record { status = status.Line; place = number }

-- how a run over an input stops that did so many of its events: as the input does where that is all, else at the line
-- of the next event, which names a frame that wasn't sent
abbrev pub stop_after : {H E : Type 0} → InputOf H E → ℕ → Stop
stop_after input done = if done == length input.events then input.stop else Refused (input.lines + done + 1) NoFrame

-- how a run of a pair stops that has these entries, one for each event
abbrev pub run_stop : Input → List Entry → Stop
run_stop input w = stop_after input (length w)

-- both ends are set to what a header says
abbrev pub AreSetTo : Heading → MasterSettings → SlaveSettings → Type 0
AreSetTo h ms ss = IsMasterOf h ms × IsSlaveOf h ss

-- there are settings of both ends that a header says, and this holds of them; a header says no others
-- (schedule_file's law `whole_headers_give_settings`)
abbrev pub WithSettings : Heading → (MasterSettings → SlaveSettings → Type 0) → Type 0
WithSettings h holds = (ms : MasterSettings) × (ss : SlaveSettings) × AreSetTo h ms ss × holds ms ss

-- these are the entries of both ends over these events, with the settings that the header says; without a whole header
-- there are none
abbrev pub AreEntries : Option Heading → List Event → List Entry → Type 0
AreEntries None events w = w ≡ []
AreEntries (Some h) events w = WithSettings h (λ ms ss. w ≡ world ms ss events)

-- the whole report of both ends over an input, and how a run that writes it ends
abbrev pub ReplayReports : Input → Ended → List ℕ → Type 0
ReplayReports input ended text =
    (w : List Entry) × AreEntries input.heading input.events w
    × (text ≡ entry_lines w ++ last_lines w (run_stop input w))
    × (ended ≡ pair_ended_at w (run_stop input w))

-- what a replay reports; it takes no memory
abbrev pub replay_reporting : Reporting Heading ScheduleLine Event
replay_reporting = record { format = schedule_format header_kind.Pair; judges = true; memory = Never; reports = ReplayReports }

-- with the settings that the header of an input says, its entries before the first other entry, all if there is none,
-- are fair
abbrev pub RunsFairly : Input → Type 0
RunsFairly input = IfSome input.heading (λ h. WithSettings h (λ ms ss. Fair ms.lengths (before_other (world ms ss input.events))))

-- where these settings match and the events of the input are honest, its entries serve
abbrev pub ServesIfHonest : Input → Type 0
ServesIfHonest input = IfSome input.heading (λ h. WithSettings h (λ ms ss. Match ms ss → IsHonest ms ss input.events → Serves ms input.events (world ms ss input.events)))

-- where these settings match and the events of the input are steady, its entries serve steadily
abbrev pub ServesIfSteady : Input → Type 0
ServesIfSteady input = IfSome input.heading (λ h. WithSettings h (λ ms ss. Match ms ss → IsSteady ms ss input.events → ServesSteadily ms input.events (world ms ss input.events)))

-- both ends ran over an input; and, where its bytes are told, the law of the pair holds of their entries, and they serve
-- if the events are honest or steady
pub record RanPair (ended : Ended) (o : Outside) : Type 0 where
  pub run : RanOver replay_reporting ended o
  pub fair : IfSome o.source.before (λ input. RunsFairly (input_of header_kind.Pair input))
  pub serves : IfSome o.source.before (λ input. ServesIfHonest (input_of header_kind.Pair input))
  pub serves_steadily : IfSome o.source.before (λ input. ServesIfSteady (input_of header_kind.Pair input))
