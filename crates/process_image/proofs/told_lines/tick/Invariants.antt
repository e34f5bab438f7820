use Rattle.process_image.proofs.Common.{AreLinesOf}
use Rattle.std.proofs.Common.{◌≡◌, ◌≤◌, ◌*◌, ◌++◌, [], Some, length, take}
use Rattle.process_image.proofs.told_lines.tick.Given as goal

abbrev pub invariant-loop-i : goal.invariant-loop-i
invariant-loop-i l = record {
  lines : AreLinesOf (λ did. Some did) l.images l.number 1 (take l.i l.dids) (l.text ++ l.waiting.text);
  first : l.text ≡ [] → l.waiting.text ≡ [];
  room : length l.waiting.text ≤ 1024 * l.i;
}
