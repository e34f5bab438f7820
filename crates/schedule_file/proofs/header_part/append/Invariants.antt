use Rattle.std.proofs.Common.{◌≡◌, ◌++◌, take}
use Rattle.schedule_file.proofs.header_part.append.Given as goal

abbrev pub invariant-loop-b : goal.invariant-loop-b
invariant-loop-b l = l.list ≡ l.initial.list ++ take l.b-index l.bytes
