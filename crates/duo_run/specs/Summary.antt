-- What a summary tells of both ends over their entries. Lists of entries are newest first.
use Rattle.std.specs.Prelude.{count_by, List, Bool, ◌&&◌, is_some}
use Rattle.fsoe_base.specs.declared.command.End.{End}
use Rattle.fsoe_base.specs.declared.command.End.TheVariants as side
use Rattle.param_load.specs.declared.entry.Entry.{Entry}
use Rattle.exchange_model.specs.Ends.{same_end}
use Rattle.exchange_model.specs.Fair.{takes_data}
use Rattle.exchange_model.specs.Serving.{state_told}
use Rattle.duo_run.specs.declared.summary.Counts.{Counts}
use Rattle.duo_run.specs.declared.summary.Summary.{Summary}

-- whether an end has a reset in an entry
abbrev pub has_reset : End → Entry → Bool
has_reset which x = same_end which x.end && is_some x.did.reset

-- whether an end drops a frame in an entry
abbrev pub has_drop : End → Entry → Bool
has_drop which x = same_end which x.end && is_some x.did.dropped

-- what is told of an end: in how many entries it takes a data frame, has a reset and drops a frame, and the state that
-- it told last
abbrev pub counts_of : End → List Entry → Counts
counts_of which w = record {
  taken = count_by (takes_data which) w;
  resets = count_by (has_reset which) w;
  drops = count_by (has_drop which) w;
  state = state_told which w;
}

-- what is told of both ends of a pair
abbrev pub summary_of : List Entry → Summary
summary_of w = record { master = counts_of side.Master w; slave = counts_of side.Slave w }
