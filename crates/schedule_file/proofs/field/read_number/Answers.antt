use Rattle.schedule_file.proofs.Common.{digits_value-take-le}
use Rattle.std.proofs.Common.{rules}
use Rattle.schedule_file.proofs.Digits.{value_more, digits_more}
use Rattle.schedule_file.proofs.field.read_number.Goals as goal

pub returns-then-value-from-clause-value : goal.returns-then-value-from-clause-value
returns-then-value-from-clause-value c = search (rules, value_more, digits_value-take-le)

pub loop-digit-preserved : goal.loop-digit-preserved
loop-digit-preserved c = search (rules, value_more, digits_more)
