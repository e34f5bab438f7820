use Rattle.process_image.proofs.Telling.{all_did, tick_parts}
use Rattle.process_image.proofs.images.Images.tick.Goals as goal

pub invariant_of-self : goal.invariant_of-self
invariant_of-self c =
    (all_did c.tick_all.new.seats c.tick_all.new.output c.tick_all.new.dids c.self.inside.seats.len c.self.inside.output.len (tick_parts _) c.self.view_is c.self.invariant
    c.as_mut_slice.ensures.value c.as_mut_slice-2.ensures.value (cc) (cc) (cc) (cc) c.tick_all.ensures.does).sound

pub returns : goal.returns
returns c =
    let is = all_did c.tick_all.new.seats c.tick_all.new.output c.tick_all.new.dids c.self.inside.seats.len c.self.inside.output.len (tick_parts _) c.self.view_is c.self.invariant
    c.as_mut_slice.ensures.value c.as_mut_slice-2.ensures.value (cc) (cc) (cc) (cc) c.tick_all.ensures.does in
    record { follows = is.follows; answers = is.answers; keeps = is.keeps }
