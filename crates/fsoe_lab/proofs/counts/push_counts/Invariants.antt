use Rattle.std.proofs.Common.{◌≡◌, ◌≤◌, ◌+◌, ◌*◌, ◌++◌, length}
use Rattle.fsoe_lab.specs.Counts.{count_lines}
use Rattle.fsoe_lab.proofs.counts.push_counts.Given as goal

abbrev pub invariant-loop-before : goal.invariant-loop-before
invariant-loop-before l = record {
  text : l.text ≡ l.initial.text ++ count_lines l.word l.most l.before;
  room : length l.text ≤ length l.initial.text + 13 * l.before;
}
