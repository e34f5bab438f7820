-- A replay over an input of either version, which its first line tells: of one pair, or of several pairs with common
-- ticks.
use Rattle.std.specs.Prelude.{ℕ, List, codes}
use Rattle.fsoe_io.specs.declared.status.Ended.{Ended}
use Rattle.file_run.specs.ByTitle.{ByTitle}
use Rattle.file_run.specs.Outside.{Outside}
use Rattle.duo_run.specs.PairsReport.{RanPairs}
use Rattle.duo_run.specs.Replay.{RanPair}

-- the first line of an input of several pairs
abbrev pub pairs_title : List ℕ
pairs_title = codes "fsoe 2 pairs"

-- a replay ran over an input: of several pairs where its first line is theirs, and else of one
abbrev pub RanReplay : Ended → Outside → Type 0
RanReplay ended o = ByTitle pairs_title o.source.before (RanPairs ended o) (RanPair ended o)
