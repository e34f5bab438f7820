use Rattle.std.proofs.Common.{ap, sym, ◌∙◌, refl}
use Rattle.std.specs.Prelude.{Some}
use Rattle.fsoe_c.proofs.Places.{ids_follow, tells}
use Rattle.fsoe_c.proofs.slave.gp_slave_reset.Goals as goal

pub returns-clause-ids : goal.returns-clause-ids
returns-clause-ids c ok v there new left =
    ids_follow _ _ _ _ _ _ v new _ _ (c.lend-room.ensures.value.0 ∙ ap Some (sym c.room.view_is)) there refl left c.reset-done.ensures.follows.is_after c.state.ensures.shows c.note-used.ensures.noted refl

pub returns-clause-tells : goal.returns-clause-tells
returns-clause-tells c ok v there =
    tells _ _ _ _ v _ _ _ _ _ _ _ _ _ _ (c.lend-room.ensures.value.0 ∙ ap Some (sym c.room.view_is)) there c.reset-done.ensures.answers.did c.reset-done.ensures.answers.sent c.reset-done.ensures.follows.is_after c.state.ensures.shows
    c.note-used.ensures.again c.set_with_id.ensures.did c.set_with_id.ensures.used c.set.ensures.bytes c.set.ensures.len c.set_with_id.ensures.past c.set.ensures.past
