use Rattle.multi_master.proofs.Common.{AreNew}
use Rattle.multi_master.proofs.making.Connections.new.Given as goal

abbrev pub invariant-loop-own : goal.invariant-loop-own
invariant-loop-own _ l = AreNew l.yielded l.made.masters.items l.made.inputs.items l.made.answers.items l.made.changed.items
