-- How many lines a header of several pairs may still have.
use Rattle.std.specs.Prelude.{ℕ, ◌+◌, ◌-◌, ◌*◌, length}
use Rattle.schedule_file.specs.Header.{Heading}
use Rattle.schedule_file.specs.Limits.{most_pairs}
use Rattle.schedule_file.specs.LinesLeft.{lines_left}
use Rattle.schedule_file.specs.PairsHeader.{PairsHeading, pairs_of}
use Rattle.schedule_file.specs.declared.pairs_header.PairsStage.{PairsStage}
use Rattle.schedule_file.specs.declared.pairs_header.PairsStage.TheVariants as pairs_stage

-- before the first pair, or of the last pair
abbrev pub last_left : PairsStage → Heading → ℕ
last_left pairs_stage.Start last = 1
last_left pairs_stage.Title last = 0
last_left pairs_stage.Pairs last = lines_left last
last_left pairs_stage.Done last = lines_left last

-- at most 1,032 lines are those of each pair that is still to come
abbrev pub pairs_lines_left : PairsHeading → ℕ
pairs_lines_left h = last_left h.stage h.last + 1032 * (most_pairs - length (pairs_of h))
