use Rattle.std.proofs.Common.{refl, sym, ap, ◌∙◌}
use Rattle.std.proofs.lemmas.List.{with_items_is}
use Rattle.c_values.proofs.Places.{there_is}
use Rattle.controller_c.specs.ControllerView.{ControllerView}
use Rattle.controller_c.proofs.Places.{answers_tick, counts_each, still_controller}
use Rattle.controller_c.proofs.steps.gp_controller_tick.Goals as goal

pub invariant_of-room : goal.invariant_of-room
invariant_of-room c =
    let dids = with_items_is c.room-2.inside.dids c.tick.new.dids (cc) in
    let frames = with_items_is c.room-2.inside.frames c.tick.new.outs (cc) in
    let counts = with_items_is c.room-2.inside.counts c.count_each.new.counts (cc) in
    let runs = ap (λ (v : ControllerView). v.running) (c.room-2.view_is ∙ sym c.room.view_is) ∙ c.if-not-room.false in
    rw (dids, frames, counts) (still_controller _ _ _ _ _ _ _ _ _ _ _ c.room-2.invariant c.tick.ensures.settings (cc) (cc) (cc) runs)

pub returns-clause-answers : goal.returns-clause-answers
returns-clause-answers c _ v there v' left =
    let dids = with_items_is c.room-2.inside.dids c.tick.new.dids (cc) in
    let frames = with_items_is c.room-2.inside.frames c.tick.new.outs (cc) in
    let was = ap (λ (v : ControllerView). v.multi) (c.room-2.view_is ∙ there_is _ _ _ c.lend-room.ensures.value.0 there) in
    let is = there_is _ _ _ refl left in
    answers_tick _ _ _ _ _ _ c.tick.ensures.answers was (sym dids ∙ ap (λ (v : ControllerView). v.dids) is) (sym frames ∙ ap (λ (v : ControllerView). v.frames) is)

pub returns-clause-counted : goal.returns-clause-counted
returns-clause-counted c _ v there v' left =
    let dids = with_items_is c.room-2.inside.dids c.tick.new.dids (cc) in
    let counts = with_items_is c.room-2.inside.counts c.count_each.new.counts (cc) in
    let was = ap (λ (v : ControllerView). v.counts) (c.room-2.view_is ∙ there_is _ _ _ c.lend-room.ensures.value.0 there) in
    let is = there_is _ _ _ refl left in
    counts_each _ _ _ _ _ _ c.count_each.ensures (c.as_mut_slice-3.ensures.value ∙ was) (c.as_slice.ensures.value ∙ ap (λ (v : ControllerView). v.dids) is) (sym counts ∙ ap (λ (v : ControllerView). v.counts) is)
