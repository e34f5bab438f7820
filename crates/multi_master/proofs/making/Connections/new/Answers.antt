use Rattle.multi_master.proofs.Common.{AddsOne}
use Rattle.std.proofs.Common.{rules}
use Rattle.multi_master.proofs.Adding.{are_new}
use Rattle.multi_master.proofs.making.Connections.new.Goals as goal

pub loop-own-preserved : goal.loop-own-preserved
loop-own-preserved _ c =
    let made = c.loop-own.made in
    let now = c.add.new.self in
    let added : AddsOne c.in-Some.own made.masters.items made.inputs.items made.answers.items now.masters.items now.inputs.items now.answers.items = search rules in
    rw c.add.ensures.changed (are_new _ _ _ _ _ _ _ _ _ c.loop-own.invariant added)
