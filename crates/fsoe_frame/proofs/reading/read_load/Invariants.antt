use Rattle.std.proofs.Common.{◌≡◌, ◌+◌, ◌*◌, ◌++◌, take, drop, slice_index}
use Rattle.fsoe_frame.specs.Parts.{pairs}
use Rattle.fsoe_frame.proofs.reading.read_load.Given as goal

-- what is read and what is left to read is the whole
abbrev pub invariant-loop-group : goal.invariant-loop-group
invariant-loop-group l = take (2 * l.group) l.out ++ (pairs (slice_index l.bytes 0) (drop (1 + 4 * l.group) l.bytes)).load ≡ (pairs (slice_index l.bytes 0) (drop 1 l.bytes)).load
