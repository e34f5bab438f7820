-- What a header describes.
use Rattle.std.specs.Prelude.{ℕ, List, codes, Bool, true, false}
use Rattle.fsoe_base.specs.declared.command.End.{End}
use Rattle.fsoe_base.specs.declared.command.End.TheVariants as side
use Rattle.schedule_file.specs.declared.header_kind.HeaderKind.{HeaderKind}
use Rattle.schedule_file.specs.declared.header_kind.HeaderKind.TheVariants as header_kind

-- a pair has both ends, and a node its own
abbrev pub has_end : HeaderKind → End → Bool
has_end header_kind.Pair end = true
has_end (header_kind.Node side.Master) side.Master = true
has_end (header_kind.Node side.Master) side.Slave = false
has_end (header_kind.Node side.Slave) side.Master = false
has_end (header_kind.Node side.Slave) side.Slave = true

-- the first line of a header
abbrev pub title_of : HeaderKind → List ℕ
title_of header_kind.Pair = codes "fsoe 1 pair"
title_of (header_kind.Node side.Master) = codes "fsoe 1 node master"
title_of (header_kind.Node side.Slave) = codes "fsoe 1 node slave"
