use Rattle.std.proofs.Common.{◌+◌, length, slice_range, ap}
use Rattle.process_image.proofs.Seats.{delivers}
use Rattle.process_image.proofs.seat.Seat.deliver.Goals as goal

pub returns : goal.returns
returns c =
    delivers (length c.args.output.now) c.args.input.now c.args.self.now c.args.output.now c.give.new.output c.deliver_into.new.self c.deliver_into.new.did c.deliver_into.new.out c.set.new.self _
    c.requires.sound (ap (λ n. slice_range c.args.input.now c.args.self.now.at_in (c.args.self.now.at_in + n)) c.len.ensures.value) (cc) c.set.ensures
    (record { follows = c.deliver_into.ensures.follows; answers = c.deliver_into.ensures.answers; setup = c.deliver_into.ensures.setup; rest = c.deliver_into.ensures.rest }) c.give.ensures
