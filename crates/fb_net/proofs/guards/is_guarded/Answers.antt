use Rattle.fb_net.proofs.Common.{is_wire_guarded}
use Rattle.std.proofs.Common.{rules}
use Rattle.fb_net.proofs.Guarding.{all_told, any_told}
use Rattle.fb_net.proofs.guards.is_guarded.Goals as goal

pub returns-in-And : goal.returns-in-And
returns-in-And c =
    let told = any_told (is_wire_guarded c.args.inp c.args.guarded.now) c.args.wires.now c.any_guarded.result c.any_guarded.ensures in
    search rules

pub returns-in-Or : goal.returns-in-Or
returns-in-Or c =
    let told = all_told (is_wire_guarded c.args.inp c.args.guarded.now) c.args.wires.now c.all_guarded.result c.all_guarded.ensures in
    search rules
