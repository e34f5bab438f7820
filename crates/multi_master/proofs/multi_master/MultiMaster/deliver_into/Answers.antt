use Rattle.multi_master.proofs.Common.{MasterView, ShowsDue, due_in, out, own_len, settings_in, slice_get_read}
use Rattle.std.proofs.Common.{◌≡◌, ◌<◌, ◌-◌, ℕ, List, Some, true, false, map, length, slice_get, slice_set, refl, sym, ap, subst, ◌∙◌, rules}
use Rattle.std.proofs.Math.ListN.{length-set}
use Rattle.multi_master.proofs.Delivering.{answered, delivered, dropped}
use Rattle.multi_master.proofs.Keeping.{multi_set, one_rest}
use Rattle.multi_master.proofs.Places.{Placed, map_set, master_placed, same_at, same_length, set_there}
use Rattle.multi_master.proofs.multi_master.MultiMaster.deliver_into.Goals.{After-index_mut-master, After-reply-arg-1}
use Rattle.multi_master.proofs.multi_master.MultiMaster.deliver_into.Goals as goal

-- the master that the frame comes to
placed : (g : _) (c : After-index_mut-master g) → Placed c.self.inside.connections.masters.items c.args.link (c.from-place.result - 1) c.index_mut-master.result.now
placed g c = search (rules, master_placed)

pub invariant_of-self : goal.invariant_of-self
invariant_of-self g c =
    let p = placed g (goal.at.invariant_of-self g c).After-index_mut-master in
    let rest : due_in c.accept_into.new.self ≡ false = sym c.due.ensures ∙ c.if-not-due.true in
    multi_set _ _ _ _ _ _ _ _ c.self.invariant p.at (ap (λ k. k.settings) c.accept_into.ensures.kit) rest c.clear.ensures

pub returns-then-not-due : goal.returns-then-not-due
returns-then-not-due g c =
    let place : ℕ = c.from-place.result - 1 in
    let p = placed g (goal.at.returns-then-not-due g c).After-index_mut-master in
    let rest : due_in c.accept_into.new.self ≡ false = sym c.due.ensures ∙ c.if-not-due.true in
    let d = delivered _ _ place c.args.frame.now c.accept_into.new.did c.clear-then-not-due.new.self
    (dropped _ _ place _ _ c.index_mut-master.result.now c.accept_into.new.self _ p.at c.accept_into.ensures.accepts rest (sym c.accept_into.ensures.due ∙ rest) c.clear-then-not-due.ensures refl refl refl c.clear.ensures)
    in
    rw (← c.self.view_is, p.number) (record {
      follows = d.0;
      answers = d.1;
      settings = map_set settings_in c.self.inside.connections.masters.items place c.index_mut-master.result.now c.accept_into.new.self p.at (ap (λ k. k.settings) c.accept_into.ensures.kit);
    })

pub run_cycle-requires-clause-fits : goal.run_cycle-requires-clause-fits
run_cycle-requires-clause-fits g c =
    let at = (placed g (goal.at.run_cycle-requires-clause-fits g c).After-index_mut-master).at in
    c.self.invariant.answers_fit
    ∙ sym (map_set own_len c.self.inside.connections.masters.items (c.from-place.result - 1) c.index_mut-master.result.now c.accept_into.new.self at (ap (λ k. k.settings.lengths.master) c.accept_into.ensures.kit))

-- after the cycle: all masters with what was put, and the one whose frame is due among them
readied : (g : _) (c : goal.After-reply-arg-1 g) → (slice_get c.run_cycle.new.self.masters.items (c.from-place.result - 1) ≡ Some c.index_mut-2.result.now) × (due_in c.index_mut-2.result.now ≡ true)
readied g c =
    let place : ℕ = c.from-place.result - 1 in
    let masters : List MasterView = c.self.inside.connections.masters.items in
    let accepted : MasterView = c.accept_into.new.self in
    let put : List MasterView = c.run_cycle.new.self.masters.items in
    let p = placed g (goal.at.reply-requires g c).After-index_mut-master in
    let some : due_in accepted ≡ true = sym c.due.ensures ∙ c.if-not-due.false in
    let dues : map due_in put ≡ map due_in (slice_set masters place accepted) = c.run_cycle.ensures.due in
    let long : length put ≡ length masters = same_length due_in due_in _ _ dues ∙ length-set masters place accepted in
    let at : slice_get put place ≡ Some c.index_mut-2.result.now = slice_get_read put _ place _ refl (subst (λ n. place < n) (sym long) p.within) c.index_mut-2.ensures.value in
    (at, same_at due_in due_in put (slice_set masters place accepted) place c.index_mut-2.result.now accepted dues at (set_there masters place _ accepted p.at) ∙ some)

pub reply-requires : goal.reply-requires
reply-requires g c = (readied g c).1

pub invariant_of-self-2 : goal.invariant_of-self-2
invariant_of-self-2 g c =
    let p = placed g (goal.at.invariant_of-self-2 g c).After-index_mut-master in
    let r = readied g (goal.at.invariant_of-self-2 g c).After-reply-arg-1 in
    let long = length-set c.run_cycle.new.self.masters.items (c.from-place.result - 1) c.reply.new.self in
    search (rules, one_rest, map_set)

pub returns : goal.returns
returns g c =
    let masters : List MasterView = c.self.inside.connections.masters.items in
    let place : ℕ = c.from-place.result - 1 in
    let before : MasterView = c.index_mut-master.result.now in
    let accepted : MasterView = c.accept_into.new.self in
    let put : List MasterView = c.run_cycle.new.self.masters.items in
    let p = placed g (goal.at.returns g c).After-index_mut-master in
    let r = readied g (goal.at.returns g c).After-reply-arg-1 in
    let kit = ap (λ k. k.settings) c.accept_into.ensures.kit in
    let d = delivered _ _ place c.args.frame.now (record c.accept_into.new.did { sent = true }) c.reply.new.out
    (answered _ _ place _ _ _ before accepted _ c.reply.new.self _ put p.at c.accept_into.ensures.accepts kit c.accept_into.ensures.due (sym c.due.ensures ∙ c.if-not-due.false)
    (subst (λ (xs : List ℕ). ShowsDue accepted xs out) (sym c.set.ensures) c.outputs.ensures.shown_due) c.run_cycle.ensures.inputs c.run_cycle.ensures.runs r.0 r.1 c.reply.ensures.replies refl
    (one_rest masters put place accepted c.reply.new.self c.run_cycle.ensures.due c.reply.ensures.done c.self.invariant.rest))
    in
    rw (← c.self.view_is, p.number) (record {
      follows = d.0;
      answers = d.1;
      settings = map_set settings_in put place c.index_mut-2.result.now c.reply.new.self r.0 (ap (λ k. k.settings) c.reply.ensures.kit)
          ∙ c.run_cycle.ensures.settings ∙ map_set settings_in masters place before accepted p.at kit;
    })
