use Rattle.end_model.proofs.Codes.{found_low}
use Rattle.end_model.proofs.laws.codes.Goals as goal

-- src/laws.rt
pub returns-clause-found : goal.returns-clause-found
returns-clause-found c = found_low
