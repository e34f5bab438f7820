use Rattle.std.proofs.Common.{◌<◌, length, rules}
use Rattle.controller_c.proofs.Making.{one_block}
use Rattle.controller_c.proofs.plan.gp_controller_block.Goals as goal

pub invariant_of-room-2 : goal.invariant_of-room-2
invariant_of-room-2 c =
    let few : length c.room-2.inside.blocks.items < 256 = search rules in
    one_block _ c.room-2.inside.blocks.items c.push_reserved.new.self.items _ _ _ _ _ c.new.result c.room-2.invariant c.new.ensures.new (cc) few
