use Rattle.std.proofs.Common.{◌≡◌, ◌*◌, ◌++◌, take, drop}
use Rattle.fsoe_frame.specs.Layout.{with_crcs, groups}
use Rattle.fsoe_frame.proofs.writing.write_groups.Given as goal

-- what is written and what is left to write is the whole
abbrev pub invariant-loop-group : goal.invariant-loop-group
invariant-loop-group l = take (4 * l.group) l.out ++ with_crcs (groups (drop (2 * l.group) l.load)) (drop l.group l.crcs) ≡ with_crcs (groups l.load) l.crcs
