use Rattle.multi_master.proofs.Common.{MasterView, due_in, own_len, settings_in}
use Rattle.std.proofs.Common.{◌≡◌, ◌-◌, ℕ, List, false, slice_set, sym, ap, subst, ◌∙◌, rules}
use Rattle.master_core.specs.Standing as core
use Rattle.end_model.specs.Outputs.{out}
use Rattle.std.proofs.Math.ListN.{length-set}
use Rattle.std.proofs.lemmas.List.Elements.{All-set}
use Rattle.multi_master.proofs.Following.{reset_answers, reset_follows}
use Rattle.multi_master.proofs.Keeping.{all_rest}
use Rattle.multi_master.proofs.Places.{Placed, map_set, master_placed}
use Rattle.multi_master.proofs.multi_master.MultiMaster.reset.Goals.{After-reset-did}
use Rattle.multi_master.proofs.multi_master.MultiMaster.reset.Goals as goal

-- the master that is reset
placed : (g : _) (c : After-reset-did g) → Placed c.self.inside.connections.masters.items c.args.link (c.from-place.result - 1) c.index_mut-master.result.now
placed g c = search (rules, master_placed)

pub run_cycle-requires-clause-fits : goal.run_cycle-requires-clause-fits
run_cycle-requires-clause-fits g c =
    let p = placed g (goal.at.run_cycle-requires-clause-fits g c).After-reset-did in
    c.self.invariant.answers_fit
    ∙ sym (map_set own_len c.self.inside.connections.masters.items (c.from-place.result - 1) c.index_mut-master.result.now c.reset-did.new.self p.at (ap (λ k. k.settings.lengths.master) c.reset-did.ensures.kit))

pub invariant_of-self : goal.invariant_of-self
invariant_of-self g c =
    let masters : List MasterView = c.self.inside.connections.masters.items in
    let place : ℕ = c.from-place.result - 1 in
    let last : MasterView = c.reset-did.new.self in
    let rest = all_rest c.run_cycle.new.self.masters.items (slice_set masters place last) c.run_cycle.ensures.due (All-set (λ m. due_in m ≡ false) masters place last c.reset-did.ensures.done c.self.invariant.rest) in
    let long = length-set masters place last in
    search rules

pub returns : goal.returns
returns g c =
    let masters : List MasterView = c.self.inside.connections.masters.items in
    let place : ℕ = c.from-place.result - 1 in
    let before : MasterView = c.index_mut-master.result.now in
    let last : MasterView = c.reset-did.new.self in
    let p = placed g (goal.at.returns g c).After-reset-did in
    let reads = subst (λ (xs : List ℕ). core.Shows last xs out) (sym c.set.ensures) c.outputs.ensures.shown in
    rw (← c.self.view_is) (record {
      follows = reset_follows _ _ c.args.link place before last _ p c.reset-did.ensures.follows reads c.run_cycle.ensures.inputs c.run_cycle.ensures.runs;
      answers = reset_answers _ c.args.link place before _ _ p c.reset-did.ensures.answers;
      settings = c.run_cycle.ensures.settings ∙ map_set settings_in masters place before last p.at (ap (λ k. k.settings) c.reset-did.ensures.kit);
    })
