use Rattle.multi_master.proofs.Common.{TicksEach, due_in, settings_in}
use Rattle.std.proofs.Common.{◌≡◌, All, false, map, take}
use Rattle.multi_master.proofs.Looping.{Untouched}
use Rattle.multi_master.proofs.cycle.tick_all.Given as goal

abbrev pub invariant-loop-i : goal.invariant-loop-i
invariant-loop-i l = record {
  rest : All (λ m. due_in m ≡ false) l.masters;
  settings : map settings_in l.masters ≡ map settings_in l.initial.masters;
  untouched : Untouched l.i l.initial.masters l.masters;
  unread : Untouched l.i l.initial.inputs l.inputs;
  ticked : TicksEach (take l.i l.initial.masters) (take l.i l.initial.inputs) (take l.i l.masters) (take l.i l.inputs) (take l.i l.dids) (take l.i l.outs);
}
