use Rattle.fb_net.proofs.Acknowledging.{drive_is, goes_on, stays_off}
use Rattle.fb_net.proofs.laws.acknowledged.Goals as goal

pub returns-clause-on : goal.returns-clause-on
returns-clause-on c = drive_is

pub returns-clause-at_release : goal.returns-clause-at_release
returns-clause-at_release c = goes_on

pub returns-clause-stuck : goal.returns-clause-stuck
returns-clause-stuck c = stays_off
