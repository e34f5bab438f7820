use Rattle.process_image.proofs.Common.{first_fault, plan_of}
use Rattle.std.proofs.Common.{◌≡◌, None, rules}
use Rattle.process_image.proofs.Beginning.{new_stands, new_sound, new_setups}
use Rattle.process_image.proofs.images.Images.new.Goals as goal

pub invariant_of-result : goal.invariant_of-result
invariant_of-result c =
    let none : first_fault (plan_of c.args.size_in c.args.size_out c.args.slots.items) ≡ None = search rules in
    new_sound c.args.size_in c.args.size_out c.args.slots.items _ none c.requires c.in_ok-seats.ensures.made c.in_ok-input.ensures.zeros c.in_ok-output.ensures.zeros

pub returns-clause-stands : goal.returns-clause-stands
returns-clause-stands c =
    let none : first_fault (plan_of c.args.size_in c.args.size_out c.args.slots.items) ≡ None = search rules in
    new_stands c.args.size_in c.args.size_out c.args.slots.items _ none c.requires c.in_ok-seats.ensures.made c.in_ok-input.ensures.zeros c.in_ok-output.ensures.zeros

pub returns-clause-setups : goal.returns-clause-setups
returns-clause-setups c = new_setups c.args.slots.items _ c.in_ok-seats.ensures.made
