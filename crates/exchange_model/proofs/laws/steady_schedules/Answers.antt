use Rattle.exchange_model.proofs.Honest.ServingRuns.{steady_serves, steady_fair}
use Rattle.exchange_model.proofs.laws.steady_schedules.Goals as goal

pub returns : goal.returns
returns c = record { serves = steady_serves; fair = steady_fair }
