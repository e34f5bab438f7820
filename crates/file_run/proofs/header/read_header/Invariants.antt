use Rattle.file_run.proofs.Common.{IsLent, IsLine, Option, most_held, most_lines}
use Rattle.std.proofs.Common.{◌≡◌, ◌≤◌, ◌+◌, ℕ, List, length}
use Rattle.file_run.proofs.HeaderSeen.{Reading}
use Rattle.file_run.proofs.header.read_header.Given as goal

abbrev pub invariant-loop-cause : goal.invariant-loop-cause
invariant-loop-cause g l = record {
  is : IsLine l.reader.line;
  held : length l.reader.bytes ≤ most_held;
  few : l.reader.lines + g.F.Format.lines_left l.header ≤ most_lines + 1;
  kind : g.F.Format.kind l.header ≡ g.F.Format.kind l.fn.header;
  stays : g.S.Source.faults l.source ≡ g.S.Source.faults l.fn.source;
  reads : (input : Option (List ℕ)) → IsLent input l.fn.reader (g.S.Source.left l.fn.source) → Reading (g.F.Format.format (g.F.Format.kind l.fn.header)) l.header l.reader input (g.S.Source.left l.source);
}

abbrev pub decreases-loop-cause : goal.decreases-loop-cause
decreases-loop-cause g l = g.F.Format.lines_left l.header
