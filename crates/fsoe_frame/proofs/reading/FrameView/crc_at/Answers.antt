use Rattle.std.proofs.Common.{◌∙◌, ap, arith}
use Rattle.std.proofs.lemmas.List.{take_rest}
use Rattle.byteorder.specs.Endian.{little_number}
use Rattle.fsoe_frame.proofs.Places.{crc_within, crc_at_pairs}
use Rattle.fsoe_frame.proofs.reading.FrameView.crc_at.Goals as goal

pub overflow_mul-group : goal.overflow_mul-group
overflow_mul-group c =
    omega (arith, c.self.told, crc_within c.self.inside.l c.self.inside.bytes.now c.args.self.now c.args.group c.self.invariant.0 c.self.invariant.1 c.self.view_is c.if-self-eq1.false c.requires)

pub overflow_add-group : goal.overflow_add-group
overflow_add-group c =
    omega (arith, c.self.told, crc_within c.self.inside.l c.self.inside.bytes.now c.args.self.now c.args.group c.self.invariant.0 c.self.invariant.1 c.self.view_is c.if-self-eq1.false c.requires)

pub returns-else-self-eq1 : goal.returns-else-self-eq1
returns-else-self-eq1 c =
    c.read_u16-else-self-eq1.ensures
    ∙ ap (little_number 2) (take_rest c.self.inside.bytes.now _)
    ∙ crc_at_pairs c.self.inside.l c.self.inside.bytes.now c.args.self.now c.args.group c.self.invariant.0 c.self.invariant.1 c.self.view_is c.if-self-eq1.false c.requires
