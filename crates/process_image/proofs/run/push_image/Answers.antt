use Rattle.process_image.proofs.Common.{WaitingText, encode_lower}
use Rattle.std.proofs.Common.{◌≡◌, ◌-◌, ℕ, take, drop, refl, ap, ◌∙◌, arith, rules}
use Rattle.process_image.proofs.ImageText.{piece_first, piece_more, piece_room}
use Rattle.process_image.proofs.run.push_image.Goals as goal

pub loop-at-init : goal.loop-at-init
loop-at-init c = record { text = piece_first c.args.waiting.now.text c.args.image.now; given = refl; within = omega arith }

pub push-requires : goal.push-requires
push-requires c = search (rules, piece_room)

pub loop-at-preserved : goal.loop-at-preserved
loop-at-preserved c =
    let at : ℕ = c.loop-at.at in
    let end : ℕ = c.min-end.result in
    let line : c.bytes.result.now ≡ encode_lower (take (end - at) (drop at c.args.image.now)) = search (rules, take) in
    record {
      text = piece_more c.args.waiting.now.text c.loop-at.waiting.text c.bytes.result.now c.push.new.self.text c.args.image.now at end (omega (arith, c.min-end.ensures)) c.loop-at.invariant.text line
          (ap (λ (w : WaitingText). w.text) c.push.ensures);
      given = ap (λ (w : WaitingText). w.given) c.push.ensures ∙ c.loop-at.invariant.given;
      within = omega (arith, c.min-end.ensures);
    }
