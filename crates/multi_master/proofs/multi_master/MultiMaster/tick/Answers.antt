use Rattle.multi_master.proofs.Common.{settings_in}
use Rattle.std.proofs.Common.{map, sym, ap, ◌∙◌, rules}
use Rattle.multi_master.proofs.Following.{tick_follows, tick_answers}
use Rattle.multi_master.proofs.Keeping.{written_back, all_rest, same_lens}
use Rattle.multi_master.proofs.multi_master.MultiMaster.tick.Goals as goal

pub run_cycle-requires-clause-fits : goal.run_cycle-requires-clause-fits
run_cycle-requires-clause-fits g c =
    let back = written_back c.tick_all.new.masters c.self.inside.connections.masters.items c.self.inside.connections.masters.len (cc) (cc) in
    rw back (c.self.invariant.answers_fit ∙ sym (same_lens c.tick_all.new.masters _ (c.tick_all.ensures.settings ∙ ap (map settings_in) c.as_mut_slice.ensures.value)))

pub invariant_of-self : goal.invariant_of-self
invariant_of-self g c = search (rules, written_back, all_rest)

pub returns : goal.returns
returns g c =
    let back = written_back c.tick_all.new.masters c.self.inside.connections.masters.items c.self.inside.connections.masters.len (cc) (cc) in
    let inputs = written_back c.tick_all.new.inputs c.self.inside.connections.inputs.items c.self.inside.connections.inputs.len (cc) (cc) in
    let ticks = rw (c.as_mut_slice.ensures.value, c.as_mut_slice-2.ensures.value, ← inputs, ← c.run_cycle.ensures.inputs) at c.tick_all.ensures.ticks in
    rw (← c.self.view_is) (record {
      follows = tick_follows _ _ c.tick_all.new.masters _ _ ticks (rw back at c.run_cycle.ensures.runs);
      answers = tick_answers _ _ _ _ _ ticks;
      settings = c.run_cycle.ensures.settings ∙ ap (map settings_in) back ∙ c.tick_all.ensures.settings ∙ ap (map settings_in) c.as_mut_slice.ensures.value;
    })
