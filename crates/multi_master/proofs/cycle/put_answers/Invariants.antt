use Rattle.multi_master.proofs.Common.{AreNumbers, PutsEach, due_in, settings_in}
use Rattle.std.proofs.Common.{◌≡◌, map, take}
use Rattle.multi_master.proofs.Looping.{Untouched}
use Rattle.multi_master.proofs.cycle.put_answers.Given as goal

abbrev pub invariant-loop-i : goal.invariant-loop-i
invariant-loop-i l = record {
  numbers : AreNumbers l.i l.changed.items;
  settings : map settings_in l.masters ≡ map settings_in l.initial.masters;
  due : map due_in l.masters ≡ map due_in l.initial.masters;
  untouched : Untouched l.i l.initial.masters l.masters;
  put : PutsEach 1 (take l.i l.initial.masters) (take l.i l.answers) (take l.i l.masters) l.changed.items;
}
