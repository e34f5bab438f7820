use Rattle.process_image.proofs.Common.{slots_of}
use Rattle.process_image.proofs.Runs.{all_new, begins_so}
use Rattle.process_image.proofs.run.ImageRunMachine.begin.Goals as goal

pub new-requires : goal.new-requires
new-requires c = all_new (slots_of c.args.header.now) c.in_ok-slots.slots.items c.in_ok-slots.ensures.made

pub returns-clause-stands : goal.returns-clause-stands
returns-clause-stands c =
    begins_so _ c.args.header.now c.in_ok-slots.slots.items c.sizes-size_in.result.0 c.sizes-size_in.result.1 c.sizes-size_in.ensures.size_in c.sizes-size_in.ensures.size_out c.in_ok-slots.ensures.made c.in-Ok.ensures.stands c.in-Ok.ensures.size_in
