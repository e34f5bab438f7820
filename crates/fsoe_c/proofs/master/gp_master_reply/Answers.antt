use Rattle.std.proofs.Common.{ap, sym, ◌∙◌, refl}
use Rattle.std.specs.Prelude.{Some}
use Rattle.fsoe_c.proofs.Places.{ids_reply}
use Rattle.fsoe_c.proofs.master.gp_master_reply.Goals as goal

pub returns-clause-ids : goal.returns-clause-ids
returns-clause-ids c ok v there new left =
    ids_reply _ _ _ _ v new _ _ (c.lend-room.ensures.value.0 ∙ ap Some (sym c.room.view_is)) there refl left c.reply.ensures.replies c.state.ensures.shown c.note.ensures.noted
