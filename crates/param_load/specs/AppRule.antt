-- Which application parameters a slave accepts. The rules are this profile's own.
use Rattle.std.specs.Prelude.{ℕ, ◌==◌, nat_le, nat_eq, Bool, true, ◌&&◌, List, length}
use Rattle.std.specs.Cmp.Lexicographic.{pointwise}
use Rattle.param_load.specs.declared.app_rule.AppRule.{AppRule}
use Rattle.param_load.specs.declared.app_rule.AppRule.TheVariants as app_rule

-- the number of bytes that a rule accepts
abbrev pub rule_len : AppRule → ℕ
rule_len (app_rule.Any n) = n
rule_len (app_rule.Exact want) = length want
rule_len (app_rule.Ranges low high) = length low

-- a rule accepts any bytes of its number, or its own bytes alone, or bytes each of which is from low to high
abbrev pub allows : AppRule → List ℕ → Bool
allows (app_rule.Any n) app = length app == n
allows (app_rule.Exact want) app = pointwise nat_eq want app
allows (app_rule.Ranges low high) app = pointwise nat_le low app && pointwise nat_le app high

-- settings may have a rule for at most 512 bytes, whose lists are as long as each other with no low above its high
abbrev pub is_acceptable : AppRule → Bool
is_acceptable (app_rule.Any n) = nat_le n 512
is_acceptable (app_rule.Exact want) = true
is_acceptable (app_rule.Ranges low high) = pointwise nat_le low high
