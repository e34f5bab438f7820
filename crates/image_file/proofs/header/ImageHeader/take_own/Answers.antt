use Rattle.image_file.proofs.Common.{Heading, ImageHeading, IsTested, Stage, fits_images, is_end_line}
use Rattle.std.proofs.Common.{◌≡◌, true, sym, ap, subst, ◌∙◌, rules}
use Rattle.std.specs.Prelude.{if◌then◌else◌}
use Rattle.image_file.specs.declared.header.Stage.TheVariants as stage
use Rattle.image_file.proofs.Tested.{own_tested}
use Rattle.image_file.proofs.header.ImageHeader.take_own.Goals.{else-is_end_line-via-then-is_end_line+else-not-fits, else-is_end_line-via-else-is_end_line}
use Rattle.image_file.proofs.header.ImageHeader.take_own.Goals as goal

pub invariant_of-self-2 : goal.invariant_of-self-2
invariant_of-self-2 c =
    let own : Heading = c.node_line.new.self in
    let h : ImageHeading =
    record { stage = c.self.inside.stage; size_in = c.self.inside.size_in; size_out = c.self.inside.size_out; before = c.self.inside.before.items; last = c.self.inside.last }
    in
    let slots : h.stage ≡ stage.Slots = ap (λ (v : ImageHeading). v.stage) c.self.view_is ∙ c.requires in
    let fits : is_end_line own.place ≡ true → fits_images h (record h.last { own = own }) ≡ true =
    elim c.else-is_end_line.branch [ else-is_end_line-via-then-is_end_line+else-not-fits w ↦ λ end. cc | else-is_end_line-via-else-is_end_line w ↦ λ end. cc ]
    in
    let next : c.if-done.self ≡ (if c.in_ok-done.done then stage.Done else stage.Slots) = search rules in
    let tested = own_tested h c.args.line.now own c.in_ok-done.done slots c.self.invariant.3 c.in_ok-done.ensures.next c.in_ok-done.ensures.done fits in
    (c.self.invariant.0, c.self.invariant.1, c.self.invariant.2, subst (λ (s : Stage). IsTested (record h { stage = s; last = record h.last { own = own } })) (sym next) tested)
