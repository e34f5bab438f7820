use Rattle.fb_net.proofs.Common.{bits_on, driven_images, with_on}
use Rattle.std.proofs.Common.{◌≡◌, map, length, fold, drop}
use Rattle.fb_net.proofs.cycle.drive_outputs.Given as goal

abbrev pub invariant-loop-drive : goal.invariant-loop-drive
invariant-loop-drive l =
    fold (λ images b. with_on images b.link b.bit) l.outputs (bits_on (drop l.drive-index l.drives) l.values l.inputs)
    ≡ driven_images l.drives l.values l.inputs (map length l.fn.outputs)
