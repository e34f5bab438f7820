-- What the lines of one end say together.
use Rattle.std.specs.Prelude.{ℕ, ◌+◌, ◌/◌, ◌%◌, ◌==◌, ◌&&◌, nat_le, Bool, true, false, length, List, [], ◌∷◌, ◌++◌, Result, Ok, Err, if◌then◌else◌}
use Rattle.std.specs.Cmp.Lexicographic.{pointwise}
use Rattle.param_load.specs.Profile.{allows_id}
use Rattle.param_load.specs.declared.app_rule.AppRule.{AppRule}
use Rattle.param_load.specs.declared.app_rule.AppRule.TheVariants as app_rule
use Rattle.param_load.specs.declared.profile.Profile.{Profile}
use Rattle.param_load.specs.declared.profile.Profile.TheVariants as profile
use Rattle.schedule_file.specs.Fields.{map_ok}
use Rattle.schedule_file.specs.Limits.{max_app}
use Rattle.schedule_file.specs.declared.header_line.MasterLine.{MasterLine}
use Rattle.schedule_file.specs.declared.header_line.RuleLine.{RuleLine}
use Rattle.schedule_file.specs.declared.header_line.RuleLine.TheVariants as rule
use Rattle.schedule_file.specs.declared.header_line.SlaveLine.{SlaveLine}
use Rattle.schedule_file.specs.declared.line_cause.LineCause.{LineCause}
use Rattle.schedule_file.specs.declared.line_cause.LineCause.TheVariants as cause

-- the `master` line, the profile, and the bytes of the `app` lines
pub record MasterValues : Type 0 where
  pub line : MasterLine
  pub profile : Profile
  pub app : List ℕ

-- the `slave` line, the profile, and the rule with what its lines list
pub record SlaveValues : Type 0 where
  pub line : SlaveLine
  pub profile : Profile
  pub rule : AppRule

-- a profile is Two
abbrev pub is_two : Profile → Bool
is_two profile.One = false
is_two (profile.Two word) = true

-- an end is in profile One, but one with a nonce that One does not allow is in Two, whose word is to come
abbrev pub profile_for : ℕ → Profile
profile_for nonce = if allows_id profile.One nonce then profile.One else profile.Two 0

-- the values of a master after its `master` line
abbrev pub master_begun : MasterLine → MasterValues
master_begun line = record { line = line; profile = profile_for line.nonce; app = [] }

-- the values of a slave after its `slave` line
abbrev pub slave_begun : SlaveLine → SlaveValues
slave_begun line = record { line = line; profile = profile_for line.nonce; rule = app_rule.Any 0 }

-- a list of bytes with those of one more line, at most 512 in all
abbrev pub list_with : List ℕ → List ℕ → Result (List ℕ) LineCause
list_with list bytes = if nat_le (length list + length bytes) max_app then Ok (list ++ bytes) else Err cause.Range

-- the first of each pair of bytes
abbrev pub lows_of : List ℕ → List ℕ
lows_of [] = []
lows_of (low ∷ []) = []
lows_of (low ∷ high ∷ pairs) = low ∷ lows_of pairs

-- the second of each pair of bytes
abbrev pub highs_of : List ℕ → List ℕ
highs_of [] = []
highs_of (low ∷ []) = []
highs_of (low ∷ high ∷ pairs) = high ∷ highs_of pairs

-- ranges with the pairs of one more line, at most 512 in all, in which no low is above its high
abbrev pub ranges_with : List ℕ → List ℕ → List ℕ → Result AppRule LineCause
ranges_with low high pairs =
    if length pairs % 2 == 0 && pointwise nat_le (lows_of pairs) (highs_of pairs) && nat_le (length low + length pairs / 2) max_app
    then Ok (app_rule.Ranges (low ++ lows_of pairs) (high ++ highs_of pairs))
    else Err cause.Range

-- a rule as its own line says, which lists nothing yet
abbrev pub rule_begun : RuleLine → AppRule
rule_begun (rule.Any n) = app_rule.Any n
rule_begun rule.Exact = app_rule.Exact []
rule_begun rule.Ranges = app_rule.Ranges [] []

-- a rule with the bytes of a `bytes` line, which follows `rule exact` alone
abbrev pub rule_with_bytes : AppRule → List ℕ → Result AppRule LineCause
rule_with_bytes (app_rule.Exact want) bytes = map_ok app_rule.Exact (list_with want bytes)
rule_with_bytes other bytes = Err cause.Header

-- a rule with the pairs of a `range` line, which follows `rule ranges` alone
abbrev pub rule_with_pairs : AppRule → List ℕ → Result AppRule LineCause
rule_with_pairs (app_rule.Ranges low high) pairs = ranges_with low high pairs
rule_with_pairs other pairs = Err cause.Header

-- the values of a master with the bytes of an `app` line
abbrev pub master_with_app : MasterValues → List ℕ → Result MasterValues LineCause
master_with_app m bytes = map_ok (λ app. record m { app = app }) (list_with m.app bytes)

-- the values of a slave with the bytes of a `bytes` line
abbrev pub slave_with_bytes : SlaveValues → List ℕ → Result SlaveValues LineCause
slave_with_bytes s bytes = map_ok (λ rule. record s { rule = rule }) (rule_with_bytes s.rule bytes)

-- the values of a slave with the pairs of a `range` line
abbrev pub slave_with_pairs : SlaveValues → List ℕ → Result SlaveValues LineCause
slave_with_pairs s pairs = map_ok (λ rule. record s { rule = rule }) (rule_with_pairs s.rule pairs)
