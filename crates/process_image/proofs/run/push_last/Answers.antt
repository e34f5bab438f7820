use Rattle.process_image.proofs.Common.{WaitingText, encode_lower, length-encode_with, lower_digits}
use Rattle.std.proofs.Common.{codes, length, length-append, ap, arith}
use Rattle.process_image.proofs.run.push_last.Goals as goal

pub push-requires-2 : goal.push-requires-2
push-requires-2 c =
    let a = length-append c.push.new.self.text (encode_lower c.args.image.now) in
    let b = length-append c.args.waiting.now.text (codes "out ") in
    let e = length-encode_with lower_digits c.args.image.now in
    omega (arith, a, b, e, ap (λ (w : WaitingText). length w.text) c.push_image.ensures, ap (λ (w : WaitingText). length w.text) c.push.ensures, ap length c.requires.fresh, c.requires.size)
