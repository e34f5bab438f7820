use Rattle.end_model.proofs.ReadBack.{read_back}
use Rattle.end_model.proofs.laws.links.Goals as goal

-- src/laws.rt
pub returns-clause-read_back : goal.returns-clause-read_back
returns-clause-read_back c = read_back
