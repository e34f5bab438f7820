use Rattle.fb_net.proofs.Common.{blocks_fault}
use Rattle.std.proofs.Common.{◌≡◌, drop}
use Rattle.fb_net.proofs.making.blocks_fault.Given as goal

abbrev pub invariant-loop-before : goal.invariant-loop-before
invariant-loop-before _ l = blocks_fault l.ins l.before (drop l.before l.blocks) ≡ blocks_fault l.ins 0 l.blocks
