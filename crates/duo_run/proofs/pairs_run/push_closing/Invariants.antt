use Rattle.duo_run.proofs.Common.{closing_lines}
use Rattle.std.proofs.Common.{◌≡◌, ◌≤◌, ◌*◌, length, take}
use Rattle.duo_run.proofs.pairs_run.push_closing.Given as goal

abbrev pub invariant-loop-i : goal.invariant-loop-i
invariant-loop-i l = record {
  lines : l.waiting.text ≡ closing_lines 1 (take l.i l.others);
  room : length l.waiting.text ≤ 1024 * l.i;
}
