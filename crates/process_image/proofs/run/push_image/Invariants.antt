use Rattle.process_image.proofs.Common.{encode_lower}
use Rattle.std.proofs.Common.{◌≡◌, ◌≤◌, ◌-◌, ◌++◌, length, take}
use Rattle.process_image.proofs.run.push_image.Given as goal

abbrev pub invariant-loop-at : goal.invariant-loop-at
invariant-loop-at l = record {
  text : l.waiting.text ≡ l.fn.waiting.text ++ encode_lower (take l.at l.image);
  given : l.waiting.given ≡ l.fn.waiting.given;
  within : l.at ≤ length l.image;
}

abbrev pub decreases-loop-at : goal.decreases-loop-at
decreases-loop-at l = length l.image - l.at
