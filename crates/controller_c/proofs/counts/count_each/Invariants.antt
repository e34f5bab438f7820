use Rattle.std.proofs.Common.{◌≡◌, ◌≤◌, ◌<◌, ℕ, get_or}
use Rattle.fsoe_base.specs.declared.did.Did.{Did}
use Rattle.controller_c.specs.Counts.{CountsStep}
use Rattle.controller_c.specs.declared.counts.GpCounts.{GpCounts}
use Rattle.controller_c.proofs.counts.count_each.Given as goal

abbrev pub invariant-loop-i : goal.invariant-loop-i
invariant-loop-i l = record {
  counted : (k : ℕ) (c : GpCounts) (d : Did) → k < l.i → CountsStep (get_or l.initial.counts k c) (get_or l.dids k d) (get_or l.counts k c);
  left : (k : ℕ) (c : GpCounts) → l.i ≤ k → get_or l.counts k c ≡ get_or l.initial.counts k c;
}
