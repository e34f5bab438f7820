use Rattle.fb_net.proofs.Guarding.{value_off}
use Rattle.fb_net.proofs.laws.guards.Goals as goal

pub returns : goal.returns
returns c = value_off
