use Rattle.std.proofs.Common.{◌≡◌, ◌-◌, length, []}
use Rattle.std.specs.Io.KnownBytes.{Consumes, prepend_known}
use Rattle.fsoe_io.specs.Line.{IsLine}
use Rattle.fsoe_io.proofs.line_reader.LineReader.advance.Given as goal

abbrev pub invariant-loop-len : goal.invariant-loop-len
invariant-loop-len g l =
    (¬ IsLine l.initial.self.bytes → (l.source ≡ l.initial.source) × (l.self.bytes ≡ l.initial.self.bytes))
    × (l.self.lines ≡ l.initial.self.lines)
    × (g.S.Source.faults l.source ≡ g.S.Source.faults l.initial.source)
    × Consumes (prepend_known l.initial.self.bytes (g.S.Source.left l.initial.source)) (prepend_known l.self.bytes (g.S.Source.left l.source)) []

abbrev pub decreases-loop-len : goal.decreases-loop-len
decreases-loop-len g l = 641 - length l.self.bytes
