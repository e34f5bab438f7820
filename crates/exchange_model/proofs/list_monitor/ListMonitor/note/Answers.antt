use Rattle.std.proofs.Common.{rules}
use Rattle.exchange_model.proofs.Monitors.ListNoted.{lists_by}
use Rattle.exchange_model.proofs.list_monitor.ListMonitor.note.Goals as goal

pub returns-then-is_none-clause-ok : goal.returns-then-is_none-clause-ok
returns-then-is_none-clause-ok c = lists_by (search rules)

pub returns-else-other-clause-ok : goal.returns-else-other-clause-ok
returns-else-other-clause-ok c = lists_by (search rules)
