use Rattle.fb_net.proofs.Common.{zero_images}
use Rattle.std.proofs.Common.{◌≡◌, ◌++◌, map, length, take, drop}
use Rattle.fb_net.proofs.images.clear.Given as goal

abbrev pub invariant-loop-i : goal.invariant-loop-i
invariant-loop-i l = take l.i l.images ++ zero_images (map length (drop l.i l.images)) ≡ zero_images (map length l.initial.images)
