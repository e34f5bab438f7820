use Rattle.std.proofs.Common.{refl, sym, subst, ◌∙◌}
use Rattle.multi_master.specs.Standing.{AnswersReset, HasLink}
use Rattle.c_values.proofs.Places.{there_is}
use Rattle.controller_c.specs.ControllerView.{ControllerView, masters_of}
use Rattle.controller_c.proofs.Places.{place_in, tells_counted}
use Rattle.controller_c.proofs.steps.gp_controller_reset.Goals as goal

pub returns-clause-tells : goal.returns-clause-tells
returns-clause-tells c _ v there v' left =
    let number = subst (λ (w : ControllerView). HasLink w.multi c.args.connection) (sym c.room-2.view_is) (c.has.ensures.link c.if-not-has.false) in
    let place = place_in c.room-2.inside.counts.items _ _ _ c.index_mut.result.now c.room-2.invariant.counts_fit number c.from.ensures c.index_mut.ensures.value in
    let was = c.room-2.view_is ∙ there_is _ _ _ c.lend-room.ensures.value.0 there in
    tells_counted (λ w. AnswersReset (masters_of w.multi) c.args.connection) _ v _ v' _ _ _ _ _ _ _ _ _ _ was (there_is _ _ _ refl left) c.reset-done.ensures.answers place c.add.ensures refl c.set-2.ensures.did c.set-2.ensures.unused c.set.ensures.bytes c.set.ensures.len c.set-2.ensures.past c.set.ensures.past
