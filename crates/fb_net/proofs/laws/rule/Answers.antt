use Rattle.fb_net.proofs.Ruled.{rule_answers, rule_values}
use Rattle.fb_net.proofs.laws.rule.Goals as goal

pub returns : goal.returns
returns c = record { outputs = rule_answers; values = rule_values }
