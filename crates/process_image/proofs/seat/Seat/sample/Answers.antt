use Rattle.std.proofs.Common.{◌+◌, length, slice_range, ap, rules}
use Rattle.process_image.proofs.Seats.{samples_none}
use Rattle.process_image.proofs.seat.Seat.sample.Goals as goal

pub returns-then-eq : goal.returns-then-eq
returns-then-eq c =
    rw c.empty.ensures
    (samples_none (length c.args.input.now) (length c.args.output.now) c.args.input.now c.args.self.now _ c.args.output.now c.requires
    (ap (λ n. slice_range c.args.input.now c.args.self.now.at_in (c.args.self.now.at_in + n)) c.len.ensures.value) (cc))

pub deliver-requires-clause-changed : goal.deliver-requires-clause-changed
deliver-requires-clause-changed c = search rules
