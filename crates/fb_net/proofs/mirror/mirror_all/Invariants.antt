use Rattle.fb_net.proofs.Common.{mirror_images}
use Rattle.std.proofs.Common.{◌≡◌, ◌++◌, map, length, take, drop}
use Rattle.fb_net.proofs.mirror.mirror_all.Given as goal

abbrev pub invariant-loop-i : goal.invariant-loop-i
invariant-loop-i l =
    take l.i l.outputs ++ mirror_images (drop l.i l.inputs) (map length (drop l.i l.outputs)) ≡ mirror_images l.inputs (map length l.initial.outputs)
