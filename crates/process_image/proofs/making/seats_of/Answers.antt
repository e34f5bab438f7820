use Rattle.process_image.proofs.Common.{AllZip, IsNewSeat, Seat, all_zipped_more, common_steps}
use Rattle.std.proofs.Common.{◌≡◌, List, [], ◌∷◌, ◌++◌, sym, subst, arith}
use Rattle.process_image.proofs.making.seats_of.Goals as goal

pub loop-slot-preserved : goal.loop-slot-preserved
loop-slot-preserved c =
    let pushed : c.push.new.self.items ≡ c.loop-slot.seats.items ++ c.new.result ∷ [] = grind (arith, common_steps) in
    subst (λ (seats : List Seat). AllZip IsNewSeat (c.loop-slot.yielded ++ c.in-Some.slot ∷ []) seats) (sym pushed)
    (all_zipped_more IsNewSeat c.loop-slot.yielded c.loop-slot.seats.items c.in-Some.slot c.new.result c.loop-slot.invariant c.new.ensures)
