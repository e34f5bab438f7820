use Rattle.std.proofs.Common.{sym, ◌∙◌}
use Rattle.plant_core.proofs.Others.{lowest_from, none_from}
use Rattle.plant_core.proofs.plant.lowest_other.Goals as goal

pub returns-then-has_other : goal.returns-then-has_other
returns-then-has_other c = λ confs steps h.
    rw c.if-has_other.true at (lowest_from c.loop-i.i confs c.args.links.now c.index-links-i.result steps c.has_other.result _ h (c.loop-i.invariant confs steps h) c.loop-i-test.true c.index-links-i.is c.has_other.ensures)

pub loop-i-preserved : goal.loop-i-preserved
loop-i-preserved c = λ confs steps h.
    rw c.if-has_other.false at (lowest_from c.loop-i.i confs c.args.links.now c.index-links-i.result steps c.has_other.result _ h (c.loop-i.invariant confs steps h) c.loop-i-test.true c.index-links-i.is c.has_other.ensures)

pub returns : goal.returns
returns c = λ confs steps h. sym (none_from _ _ _ _ h c.loop-i-test.false) ∙ c.loop-i.invariant confs steps h
