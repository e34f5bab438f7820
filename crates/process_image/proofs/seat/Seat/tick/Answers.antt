use Rattle.process_image.proofs.Seats.{moves}
use Rattle.param_load.specs.declared.entry.Move.TheVariants as move
use Rattle.process_image.proofs.seat.Seat.tick.Goals as goal

pub returns : goal.returns
returns c =
    moves move.Tick c.args.self.now c.args.output.now c.give.new.output c.tick_into.new.self c.tick_into.new.did c.tick_into.new.out
    (record { follows = c.tick_into.ensures.follows; answers = c.tick_into.ensures.answers; setup = c.tick_into.ensures.setup; rest = c.tick_into.ensures.rest }) c.give.ensures
