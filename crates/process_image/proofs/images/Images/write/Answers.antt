use Rattle.process_image.proofs.Common.{with_bytes}
use Rattle.std.proofs.Common.{ℕ, length, refl, ap, ◌∙◌}
use Rattle.process_image.proofs.Keeping.{written_back}
use Rattle.process_image.proofs.One.{write_follows}
use Rattle.process_image.proofs.images.Images.write.Goals as goal

pub returns-clause-follows : goal.returns-clause-follows
returns-clause-follows c =
    let back = written_back c.overwrite.new.image c.self.inside.input.items c.self.inside.input.len (cc) (cc) in
    rw (← c.self.view_is, back)
    (write_follows (length c.self.inside.input.items) (length c.self.inside.output.items) _ _ c.args.at c.args.bytes.now c.self.invariant.seats refl
    (c.overwrite.ensures ∙ ap (with_bytes c.from.result c.args.bytes.now) c.as_mut_slice.ensures.value ∙ ap (λ (at : ℕ). with_bytes at c.args.bytes.now c.self.inside.input.items) c.from.ensures) refl)
