use Rattle.fb_net.proofs.Common.{drives_fault}
use Rattle.std.proofs.Common.{◌≡◌, [], take, drop}
use Rattle.fb_net.proofs.making.drives_fault.Given as goal

abbrev pub invariant-loop-before : goal.invariant-loop-before
invariant-loop-before l =
    drives_fault l.ins l.outs l.count (take l.before l.drives) (drop l.before l.drives) ≡ drives_fault l.ins l.outs l.count [] l.drives
