use Rattle.process_image.proofs.Common.{ImagesView, bytes_at}
use Rattle.std.proofs.Common.{ap, ◌∙◌}
use Rattle.process_image.proofs.Reading.{frame_shown}
use Rattle.process_image.proofs.images.Images.frame.Goals as goal

pub returns-clause-shown : goal.returns-clause-shown
returns-clause-shown c =
    frame_shown c.args.self.now c.args.slot c.seat-seat.result.now _ _ _ c.seat-seat.ensures.there c.seat-seat.ensures.sound
    (ap (bytes_at c.seat-seat.result.now.at_out c.seat-seat.result.now.len_out) (c.deref.ensures.value ∙ ap (λ (v : ImagesView). v.output) c.self.view_is))
