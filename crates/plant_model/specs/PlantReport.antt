-- The text of a plant's report over its script and its journal, whose steps are listed oldest first.
use Rattle.std.specs.Prelude.{ℕ, suc, Bool, true, false, List, [], ◌∷◌, ◌++◌, codes, decimal, if◌then◌else◌}
use Rattle.hex.specs.Hex.{encode_lower}
use Rattle.fsoe_base.specs.Command.{state_name}
use Rattle.fsoe_io.specs.declared.status.Ended.{Ended}
use Rattle.schedule_file.specs.Input.{Stop, AtEnd, Refused}
use Rattle.file_run.specs.Report.{ended_with, other_line, refused_line}
use Rattle.file_run.specs.Reporting.{refused_at}
use Rattle.fsoe_base.specs.declared.command.End.{End}
use Rattle.fsoe_base.specs.declared.command.End.TheVariants as side
use Rattle.param_load.specs.declared.entry.Entry.{Entry}
use Rattle.plant_conf.specs.declared.conf.LinkConf.{LinkConf}
use Rattle.plant_model.specs.declared.journal.JournalStep.{JournalStep}
use Rattle.plant_model.specs.declared.journal.JournalStep.TheVariants as journal_step
use Rattle.plant_model.specs.Pair.{pair, state_at, end_outputs, journal_ticks, is_tick_step, lowest_other}

-- the state and the outputs of an end after these entries
abbrev pub end_text : LinkConf → End → List Entry → List ℕ
end_text link end w = codes " " ++ state_name (state_at link end w) ++ codes " " ++ encode_lower (end_outputs link end w)

-- the line of connection k: both ends after these entries, the master first
abbrev pub link_line : LinkConf → ℕ → List Entry → List ℕ
link_line link k w = decimal k ++ end_text link side.Master w ++ end_text link side.Slave w ++ codes "\n"

-- the lines of the connections, the first of which has number k, by a journal
abbrev pub link_lines : ℕ → List LinkConf → List JournalStep → List ℕ
link_lines k [] journal = []
link_lines k (link ∷ links) journal = link_line link k (pair link k journal) ++ link_lines (suc k) links journal

-- the lines of the last tick of a journal, which number it and show all ends as they are after the journal
abbrev pub plant_tick_lines : List LinkConf → List JournalStep → List ℕ
plant_tick_lines links journal = codes "tick " ++ decimal (journal_ticks journal) ++ codes "\n" ++ link_lines 1 links journal

-- whether a step begins what the plant does at one line of its script; the steps that are none of the script's belong
-- to the last that is
abbrev pub is_line : JournalStep → Bool
is_line (journal_step.Script event) = true
is_line journal_step.App = true
is_line _ = false

-- whether the last line of the script in a journal is a tick, where it was so before these steps
abbrev pub in_tick : Bool → List JournalStep → Bool
in_tick before [] = before
in_tick before (step ∷ steps) = in_tick (if is_line step then is_tick_step step else before) steps

-- the lines of the tick that a journal ends in, if it ends in one
abbrev pub lines_due : List LinkConf → List JournalStep → List ℕ
lines_due links journal = if in_tick false journal then plant_tick_lines links journal else []

-- the lines of the ticks that go on after `before` in these further steps: each tick shows the ends after the last step
-- before the next line of the script
abbrev pub lines_from : List LinkConf → List JournalStep → List JournalStep → List ℕ
lines_from links before [] = lines_due links before
lines_from links before (step ∷ steps) =
    (if is_line step then lines_due links before else []) ++ lines_from links (before ++ step ∷ []) steps

-- the lines of all ticks of a journal
abbrev pub ticks_text : List LinkConf → List JournalStep → List ℕ
ticks_text links journal = lines_from links [] journal

-- the last lines of a plant with this journal, whose script stops so; `bound_text` has the lines of its bounds
abbrev pub plant_last_lines : List LinkConf → List JournalStep → List ℕ → Stop → List ℕ
plant_last_lines links journal bound_text AtEnd = codes "ticks " ++ decimal (journal_ticks journal) ++ codes "\n" ++ other_line (lowest_other 1 links journal) ++ bound_text
plant_last_lines links journal bound_text (Refused number why) = refused_line number why

-- the report of a plant with this journal, whose script stops so; `bound_text` has the lines of its bounds
abbrev pub report_text : List LinkConf → List JournalStep → List ℕ → Stop → List ℕ
report_text links journal bound_text stop = ticks_text links journal ++ plant_last_lines links journal bound_text stop

-- how a run ends that writes it
abbrev pub report_end : List LinkConf → List JournalStep → Stop → Ended
report_end links journal AtEnd = ended_with (lowest_other 1 links journal)
report_end links journal (Refused number why) = refused_at number
