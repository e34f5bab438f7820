use Rattle.plant_run.proofs.Common.{lengths_in}
use Rattle.std.proofs.Common.{◌≡◌, length, map, take}
use Rattle.plant_run.proofs.script.ScriptHeader.new.Given as goal

abbrev pub invariant-loop-i : goal.invariant-loop-i
invariant-loop-i l = (length l.all ≡ 64) × (take l.i l.all ≡ map lengths_in (take l.i l.links))
