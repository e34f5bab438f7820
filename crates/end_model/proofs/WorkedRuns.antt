-- The worked runs, by computing.
use Rattle.std.proofs.Common.{refl}
use Rattle.hex.proofs.OnLiterals.{hex_on_literals}
use Rattle.fsoe_crc.specs.Remainder.{computing}
use Rattle.end_model.specs.WorkedRuns.{FirstTick, IdSetLater, IdsByStep, LongSessionIds, MasterContents, MasterHandshake, MasterIsReset, MasterOfOtherProfile, MasterStepsNumber, MasterTestsInOrder, OldFrames, OutlastsReset, QuietAtItsLimit, QuietInReset, SlaveExpires, SlaveExpiresInParameter, SlaveExpiresInSession, SlaveGoesOn, SlaveHandshake, SlaveRefusesOldFrame, SlaveResetItself, SlaveTestsConnection, SlaveTestsInOrder, WrongAddress, WrongParameters, WrongWatchdog}

pub master_runs : FirstTick × MasterHandshake × MasterStepsNumber × MasterIsReset
unfolding FirstTick MasterHandshake MasterStepsNumber MasterIsReset computing hex_on_literals
master_runs = (refl, refl, refl, refl)

pub slave_runs : SlaveHandshake × SlaveExpires × SlaveGoesOn × SlaveRefusesOldFrame × SlaveResetItself × QuietInReset × QuietAtItsLimit × LongSessionIds × IdSetLater × OutlastsReset × SlaveExpiresInParameter × SlaveExpiresInSession
unfolding SlaveHandshake SlaveExpires SlaveGoesOn SlaveRefusesOldFrame SlaveResetItself QuietInReset QuietAtItsLimit LongSessionIds IdSetLater OutlastsReset SlaveExpiresInParameter SlaveExpiresInSession computing hex_on_literals
slave_runs = (refl, refl, refl, refl, refl, refl, refl, refl, refl, refl, refl, refl)

pub refusals : WrongAddress × WrongWatchdog × WrongParameters × MasterOfOtherProfile
unfolding WrongAddress WrongWatchdog WrongParameters MasterOfOtherProfile computing hex_on_literals
refusals = (refl, refl, refl, refl)

pub verdicts : SlaveTestsInOrder × MasterTestsInOrder × SlaveTestsConnection × MasterContents × OldFrames
unfolding SlaveTestsInOrder MasterTestsInOrder SlaveTestsConnection MasterContents OldFrames computing hex_on_literals
verdicts = (refl, refl, refl, refl, refl)

pub ids_by_step : IdsByStep
unfolding IdsByStep computing hex_on_literals
ids_by_step = (refl, refl, refl)
