use Rattle.plant_core.proofs.Common.{AllNoted, JournalStep, LinkConf, lowest_other}
use Rattle.std.proofs.Common.{◌≡◌, ◌+◌, List, drop}
use Rattle.plant_core.proofs.plant.lowest_other.Given as goal

abbrev pub invariant-loop-i : goal.invariant-loop-i
invariant-loop-i l = (confs : List LinkConf) (steps : List JournalStep) → AllNoted confs l.links steps → lowest_other (l.i + 1) (drop l.i confs) steps ≡ lowest_other 1 confs steps
