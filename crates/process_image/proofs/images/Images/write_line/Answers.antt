use Rattle.process_image.proofs.Common.{ShowsAt, last_frame}
use Rattle.std.proofs.Common.{◌≡◌, [], true, false, refl, rules}
use Rattle.process_image.proofs.Reading.{told_at}
use Rattle.process_image.proofs.images.Images.write_line.Goals.{then-did, else-did}
use Rattle.process_image.proofs.images.Images.write_line.Goals as goal

pub returns-clause-line : goal.returns-clause-line
returns-clause-line c =
    let frame : c.args.did.now.sent ≡ true → ShowsAt c.args.self.now c.args.slot c.if-did.sent.now last_frame = search rules in
    let none : c.args.did.now.sent ≡ false → c.if-did.sent.now ≡ [] = elim c.if-did.branch [ then-did w ↦ λ no. absurd (cc) | else-did w ↦ λ no. rw w.sent-is refl ] in
    told_at c.args.self.now c.args.slot c.seat.result.now c.args.number c.args.did.now c.if-did.sent.now c.write_line.new.text c.seat.ensures.there c.write_line.ensures.line frame none
