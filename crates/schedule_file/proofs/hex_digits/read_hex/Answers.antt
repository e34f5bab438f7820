use Rattle.std.proofs.Common.{arith, rules}
use Rattle.schedule_file.proofs.HexDigits.{other_count, one_read, all_read}
use Rattle.schedule_file.proofs.hex_digits.read_hex.Goals as goal

pub returns-then-count-eq0-clause-value : goal.returns-then-count-eq0-clause-value
returns-then-count-eq0-clause-value c = search (rules, other_count)

pub loop-i-preserved : goal.loop-i-preserved
loop-i-preserved c =
    one_read c.args.text.now c.loop-i.out c.loop-i.i c.loop-i.seen c.value.result c.value-in-loop-i.result (omega arith) (omega arith)
    c.value.ensures.value c.value-in-loop-i.ensures.value c.loop-i.invariant

pub returns-then-seen-lt256-clause-value : goal.returns-then-seen-lt256-clause-value
returns-then-seen-lt256-clause-value c = search (rules, all_read)
