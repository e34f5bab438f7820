-- The watchdog of an upload stays as it came.
use Rattle.std.proofs.Common.{◌≡◌, ℕ, ◌<◌, List, ◌++◌, length, Option, None, arith, rules}
use Rattle.std.specs.Option.{option_or}
use Rattle.std.proofs.lemmas.List.{get_or_append_left}
use Rattle.fsoe_base.specs.declared.command.Code.{Code}
use Rattle.param_load.specs.declared.contents.Expected.{Expected}
use Rattle.param_load.specs.declared.app_rule.AppRule.{AppRule}
use Rattle.param_load.specs.Contents.{contents_fault}
use Rattle.param_load.specs.Payload.{number_at}
use Rattle.param_load.specs.Upload.{HasWatchdog}

pub first : (a b : Option Code) → option_or a b ≡ None → a ≡ None
first a b h = grind arith

stays : (u p : List ℕ) → 3 < length u → number_at 2 (u ++ p) ≡ number_at 2 u
stays u p h = grind (arith, get_or_append_left u p 0 2 (omega arith), get_or_append_left u p 0 3 h)

-- the watchdog of the joined bytes isn't 0 where no test fails
pub joined_watchdog : (e : Expected) (rule : AppRule) (u p rest : List ℕ) → HasWatchdog e u → contents_fault e rule (length u) (u ++ p) rest ≡ None → HasWatchdog e (u ++ p)
joined_watchdog e rule u p rest h k = search (rules, stays)
