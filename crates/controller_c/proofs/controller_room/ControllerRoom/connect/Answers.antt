use Rattle.controller_c.proofs.Making.{one_more}
use Rattle.controller_c.proofs.controller_room.ControllerRoom.connect.Goals as goal

pub invariant_of-self-2 : goal.invariant_of-self-2
invariant_of-self-2 c =
    let was = c.self.inside in
    let added = c.in_ok-add.ensures in
    one_more _ was.multi _ _ _ _ was.dids.items _ was.frames.items _ was.counts.items _ c.nothing.result c.new.result c.none.result c.self.invariant added.settings added.app added.stands (cc) (cc) (cc)
