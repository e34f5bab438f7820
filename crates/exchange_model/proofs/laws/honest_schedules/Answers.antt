use Rattle.exchange_model.proofs.Honest.ServingRuns.{honest_serves, honest_fair}
use Rattle.exchange_model.proofs.laws.honest_schedules.Goals as goal

pub returns : goal.returns
returns c = record { serves = honest_serves; fair = honest_fair }
