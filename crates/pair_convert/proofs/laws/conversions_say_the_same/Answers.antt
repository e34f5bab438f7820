use Rattle.pair_convert.proofs.Conversion.SameWorld.{same_world, says_the_same}
use Rattle.pair_convert.proofs.laws.conversions_say_the_same.Goals as goal

pub returns-clause-world : goal.returns-clause-world
returns-clause-world c = same_world

pub returns-clause-input : goal.returns-clause-input
returns-clause-input c = says_the_same
