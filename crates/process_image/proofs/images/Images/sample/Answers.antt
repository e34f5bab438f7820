use Rattle.process_image.proofs.Telling.{all_did, sample_parts}
use Rattle.process_image.proofs.images.Images.sample.Goals as goal

pub invariant_of-self : goal.invariant_of-self
invariant_of-self c =
    (all_did c.sample_all.new.seats c.sample_all.new.output c.sample_all.new.told c.self.inside.seats.len c.self.inside.output.len (sample_parts _) c.self.view_is c.self.invariant
    c.as_mut_slice.ensures.value c.as_mut_slice-2.ensures.value (cc) (cc) (cc) (cc) (rw c.as_slice.ensures.value at c.sample_all.ensures.does)).sound

pub returns : goal.returns
returns c =
    let is = all_did c.sample_all.new.seats c.sample_all.new.output c.sample_all.new.told c.self.inside.seats.len c.self.inside.output.len (sample_parts _) c.self.view_is c.self.invariant
    c.as_mut_slice.ensures.value c.as_mut_slice-2.ensures.value (cc) (cc) (cc) (cc) (rw c.as_slice.ensures.value at c.sample_all.ensures.does) in
    record { follows = is.follows; answers = is.answers; keeps = is.keeps }
