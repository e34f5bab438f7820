use Rattle.std.proofs.Common.{◌≡◌, arith, refl, length-set}
use Rattle.fsoe_crc.proofs.Counting.{none_yet, at_most, counted}
use Rattle.fsoe_crc.proofs.weights.changes_by_bits.Goals as goal

pub loop-before-init : goal.loop-before-init
loop-before-init c = record { long = refl; counted = none_yet }

pub overflow_add-counts : goal.overflow_add-counts
overflow_add-counts c =
    omega (arith, c.loop-before.invariant.counted c.bits_turned_by.result (omega arith), at_most c.loop-before.before c.bits_turned_by.result)

pub loop-before-preserved : goal.loop-before-preserved
loop-before-preserved c = record {
  long = simp length-set c.loop-before.invariant.long;
  counted = λ bits h. counted c.loop-before.counts c.loop-before.before c.bits_turned_by.result bits c.loop-before.invariant.long (omega arith) c.bits_turned_by.ensures.value c.loop-before.invariant.counted h;
}

pub returns : goal.returns
returns c = λ bits h. let same : c.loop-before.before ≡ c.args.most = omega arith in rw (← same) (c.loop-before.invariant.counted bits h)
