use Rattle.process_image.proofs.Common.{IsSoundSeat}
use Rattle.std.proofs.Common.{◌-◌, length, arith}
use Rattle.process_image.proofs.Counts.{seat_numbered, seat_there}
use Rattle.process_image.proofs.Zips.{all_at}
use Rattle.process_image.proofs.images.Images.seat.Goals as goal

pub returns-clause-there : goal.returns-clause-there
returns-clause-there c = seat_numbered _ _ c.args.slot (c.from.result - 1) c.index.result.now c.self.view_is (omega arith) c.requires c.index.ensures

pub returns-clause-sound : goal.returns-clause-sound
returns-clause-sound c =
    let at = seat_there _ _ c.args.slot (c.from.result - 1) c.index.result.now c.self.view_is (omega arith) c.requires c.index.ensures in
    rw (← c.self.view_is) (all_at (IsSoundSeat (length c.self.inside.input.items) (length c.self.inside.output.items)) c.self.inside.seats.items (c.from.result - 1) c.index.result.now c.self.invariant.seats at)
