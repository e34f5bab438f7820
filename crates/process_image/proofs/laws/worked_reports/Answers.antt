use Rattle.std.proofs.Common.{refl}
use Rattle.std.specs.Fmt.{digits}
use Rattle.hex.proofs.OnLiterals.{hex_on_literals}
use Rattle.fsoe_crc.specs.Remainder.{computing}
use Rattle.process_image.specs.Worked.{Reports}
use Rattle.process_image.proofs.laws.worked_reports.Goals as goal

pub returns-clause-changes_alone : goal.returns-clause-changes_alone
unfolding Reports computing hex_on_literals digits
returns-clause-changes_alone c = refl

pub returns-clause-half_written : goal.returns-clause-half_written
unfolding Reports computing hex_on_literals digits
returns-clause-half_written c = refl

pub returns-clause-both_ends : goal.returns-clause-both_ends
unfolding Reports computing hex_on_literals digits
returns-clause-both_ends c = refl
