use Rattle.image_file.proofs.Common.{AllZip, ImageHeading, IsMadeOf, SlotHeader, slots_of}
use Rattle.std.proofs.Common.{◌∷◌, ◌++◌, [], List, ap, sym, ◌∙◌, arith, rules}
use Rattle.image_file.proofs.Tested.{whole_fit, whole_slots}
use Rattle.image_file.proofs.Zips.{zip_more, zip_last, zip_whole}
use Rattle.image_file.proofs.header.ImageHeader.slots.Goals as goal

pub loop-slot-preserved : goal.loop-slot-preserved
loop-slot-preserved c = record {
  made = zip_more IsMadeOf c.as_slice-slot-items.result.now c.loop-slot.slots.items _ c.loop-slot.slot-index c.slot-item.result c.slot.result (omega arith) c.slot-item.is c.loop-slot.invariant.made c.slot.ensures c.push_reserved.ensures.items;
  len = omega arith;
  room = omega arith;
}

pub returns-clause-made : goal.returns-clause-made
returns-clause-made c =
    let all : AllZip IsMadeOf c.as_slice-slot-items.result.now c.loop-slot.slots.items = zip_whole IsMadeOf c.as_slice-slot-items.result.now c.loop-slot.slots.items c.loop-slot.slot-index (omega arith) c.loop-slot.invariant.made in
    zip_last IsMadeOf c.as_slice-slot-items.result.now (slots_of c.args.self.now) c.loop-slot.slots.items _ c.self.inside.last c.slot-2.result all c.slot-2.ensures
    (whole_slots c.args.self.now c.requires
    ∙ ap (λ (xs : List SlotHeader). xs ++ c.args.self.now.last ∷ []) (ap (λ (v : ImageHeading). v.before) (sym c.self.view_is) ∙ sym c.as_slice-slot-items.ensures.value)
    ∙ ap (λ (x : SlotHeader). c.as_slice-slot-items.result.now ++ x ∷ []) (ap (λ (v : ImageHeading). v.last) (sym c.self.view_is)))
    c.push_reserved-2.ensures.items

pub returns-clause-fit : goal.returns-clause-fit
returns-clause-fit c = search (rules, whole_fit, returns-clause-made)
