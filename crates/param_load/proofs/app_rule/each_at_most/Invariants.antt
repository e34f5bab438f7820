use Rattle.std.proofs.Common.{◌≡◌, nat_le, drop}
use Rattle.std.specs.Cmp.Lexicographic.{pointwise}
use Rattle.param_load.proofs.app_rule.each_at_most.Given as goal

abbrev pub invariant-loop-i : goal.invariant-loop-i
invariant-loop-i l = pointwise nat_le l.xs l.ys ≡ pointwise nat_le (drop l.i l.xs) (drop l.i l.ys)
