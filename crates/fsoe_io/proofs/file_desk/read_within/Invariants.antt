use Rattle.std.proofs.Common.{◌≡◌, length, ◌-◌, ◌≤◌}
use Rattle.std.specs.Io.KnownBytes.{Consumes}
use Rattle.fsoe_io.proofs.file_desk.read_within.Given as goal

abbrev pub invariant-loop-count : goal.invariant-loop-count
invariant-loop-count g l =
    (length l.text.items ≤ l.limit)
    × (g.S.Source.faults l.source ≡ g.S.Source.faults l.initial.source)
    × Consumes (g.S.Source.left l.initial.source) (g.S.Source.left l.source) l.text.items

abbrev pub decreases-loop-count : goal.decreases-loop-count
decreases-loop-count g l = l.limit - length l.text.items
