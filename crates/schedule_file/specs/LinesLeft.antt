-- How many lines a header may still have.
use Rattle.std.specs.Prelude.{ℕ, ◌+◌, ◌-◌, length}
use Rattle.param_load.specs.AppRule.{rule_len}
use Rattle.schedule_file.specs.Header.{Heading}
use Rattle.schedule_file.specs.Limits.{max_app}
use Rattle.schedule_file.specs.declared.place.Place.{Place}
use Rattle.schedule_file.specs.declared.place.Place.TheVariants as place

-- after a line, where the master has so many application bytes, and the rule of the slave lists so many
abbrev pub left_after : Place → ℕ → ℕ → ℕ
left_after place.Start app listed = 1032
left_after place.Title app listed = 1031
left_after place.Lengths app listed = 1030
left_after place.Master app listed = 1029
left_after place.App app listed = 516 + (max_app - app)
left_after place.Slave app listed = 515
left_after place.SlaveProfile app listed = 514
left_after place.RuleAny app listed = 1
left_after place.RuleExact app listed = 1 + (max_app - listed)
left_after place.RuleRanges app listed = 1 + (max_app - listed)
left_after place.Done app listed = 0

-- the most lines that a header may still have: each `app`, `bytes` or `range` line has at least one byte of `max_app`
abbrev pub lines_left : Heading → ℕ
lines_left h = left_after h.place (length h.master.app) (rule_len h.slave.rule)
