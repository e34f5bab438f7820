-- The closing lines that reports share, and how runs end that find other entries.
use Rattle.std.specs.Prelude.{ℕ, List, ◌++◌, codes, decimal, Option, Some, None}
use Rattle.fsoe_io.specs.declared.status.Ended.{Ended}
use Rattle.fsoe_io.specs.declared.status.Status.TheVariants as status
use Rattle.schedule_file.specs.Input.{InputCause, Stop, AtEnd, Refused}
use Rattle.file_run.specs.Refusal.{refusal_name}

-- the line that counts the events of an input that was read up to its `end`
abbrev pub events_line : ℕ → List ℕ
events_line events = codes "events " ++ decimal events ++ codes "\n"

-- the last line where a line is refused
abbrev pub refused_line : ℕ → InputCause → List ℕ
refused_line line why = codes "refused " ++ decimal line ++ codes " " ++ refusal_name why ++ codes "\n"

-- the last line of an input with so many events
abbrev pub last_line : ℕ → Stop → List ℕ
last_line events AtEnd = events_line events
last_line events (Refused line why) = refused_line line why

-- the line that names the first other entry, or says that there is none
abbrev pub other_line : Option ℕ → List ℕ
other_line None = codes "other none\n"
other_line (Some n) = codes "other " ++ decimal n ++ codes "\n"

-- how a whole run ends, by the number of its first other entry
abbrev pub ended_with : Option ℕ → Ended
ended_with None = record { status = status.Ok; place = 0 }
ended_with (Some n) = record { status = status.Other; place = n }
