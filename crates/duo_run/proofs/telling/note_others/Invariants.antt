use Rattle.duo_run.specs.PairsStanding.{Notes}
use Rattle.duo_run.proofs.Pairs.At.{SetTo}
use Rattle.duo_run.proofs.telling.note_others.Given as goal

abbrev pub invariant-loop-i : goal.invariant-loop-i
invariant-loop-i l = SetTo (Notes l.number l.duos) l.i l.initial.others l.others
