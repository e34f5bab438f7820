use Rattle.process_image.proofs.Common.{AreLinesOf}
use Rattle.std.proofs.Common.{◌≡◌, ◌≤◌, ◌*◌, ◌++◌, [], length, take}
use Rattle.process_image.proofs.told_lines.sample.Given as goal

abbrev pub invariant-loop-i : goal.invariant-loop-i
invariant-loop-i l = record {
  lines : AreLinesOf (λ o. o) l.images l.number 1 (take l.i l.dids) (l.text ++ l.waiting.text);
  first : l.text ≡ [] → l.waiting.text ≡ [];
  room : length l.waiting.text ≤ 1024 * l.i;
}
