use Rattle.std.proofs.Common.{rules}
use Rattle.exchange_model.proofs.Monitors.Noted.{notes_by}
use Rattle.exchange_model.proofs.monitor.Monitor.note_parts.Goals as goal

pub returns-then-is_none-clause-notes : goal.returns-then-is_none-clause-notes
returns-then-is_none-clause-notes c = notes_by (search rules)

pub returns-else-other-clause-notes : goal.returns-else-other-clause-notes
returns-else-other-clause-notes c = notes_by (search rules)
