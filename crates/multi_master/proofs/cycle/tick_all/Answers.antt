use Rattle.multi_master.proofs.Common.{MasterView, due_in, settings_in, slice_get-get_or, take_more_set}
use Rattle.std.proofs.Common.{◌≡◌, ℕ, List, Some, false, slice_get, slice_index_or, refl, sym, ◌∙◌, arith, rules}
use Rattle.std.proofs.lemmas.List.{take_all}
use Rattle.std.proofs.lemmas.List.Elements.{All-set}
use Rattle.multi_master.proofs.Looping.{next_taken, untouched_more}
use Rattle.multi_master.proofs.Places.{all_at, map_set}
use Rattle.multi_master.proofs.Following.{ticks_more}
use Rattle.multi_master.proofs.cycle.tick_all.Goals as goal

pub tick_one-requires : goal.tick_one-requires
tick_one-requires c = search (rules, all_at, slice_get-get_or)

pub loop-i-init : goal.loop-i-init
loop-i-init c = record { rest = c.requires.rest; settings = refl; untouched = λ k late. refl; unread = λ k late. refl; ticked = tt }

pub loop-i-preserved : goal.loop-i-preserved
loop-i-preserved c =
    let i : ℕ = c.loop-i.i in
    let masters : List MasterView = c.loop-i.masters in
    let inputs : List (List ℕ) = c.loop-i.inputs in
    let m : MasterView = slice_index_or masters i c.index-masters-i.result in
    let input : List ℕ = slice_index_or inputs i c.index-inputs-i.result in
    let m' : MasterView = c.tick_one.new.master in
    let at : slice_get masters i ≡ Some m = slice_get-get_or masters i c.index-masters-i.result (omega arith) in
    let was : slice_get inputs i ≡ Some input = slice_get-get_or inputs i c.index-inputs-i.result (omega arith) in
    let t = c.tick_one.ensures in
    let so_far = c.loop-i.invariant in
    record {
      rest = All-set (λ m. due_in m ≡ false) masters i m' t.rest so_far.rest;
      settings = map_set settings_in masters i m m' at t.settings ∙ so_far.settings;
      untouched = untouched_more i _ masters _ m' so_far.untouched refl;
      unread = untouched_more i _ inputs _ c.tick_one.new.input so_far.unread refl;
      ticked = rw (next_taken c.args.masters.now i m (sym (so_far.untouched i (omega arith)) ∙ at), next_taken c.args.inputs.now i input (sym (so_far.unread i (omega arith)) ∙ was), take_more_set masters i m' (omega arith), take_more_set inputs i c.tick_one.new.input (omega arith), take_more_set c.loop-i.dids i c.tick_one.new.did (omega arith), take_more_set c.loop-i.outs i c.tick_one.new.out (omega arith))
          (ticks_more _ _ _ _ _ _ m input m' _ _ _ so_far.ticked t);
    }

pub returns-clause-ticks : goal.returns-clause-ticks
returns-clause-ticks c =
    let i : ℕ = c.loop-i.i in
    rw (take_all i c.args.masters.now (omega arith), take_all i c.args.inputs.now (omega arith), take_all i c.loop-i.masters (omega arith), take_all i c.loop-i.inputs (omega arith), take_all i c.loop-i.dids (omega arith), take_all i c.loop-i.outs (omega arith))
    at c.loop-i.invariant.ticked
