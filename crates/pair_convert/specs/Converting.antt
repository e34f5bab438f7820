-- What a line of a pair file is converted to, by the lines before it.
use Rattle.std.specs.Prelude.{◌≡◌, ℕ, ◌+◌, ◌-◌, ◌==◌, Bool, true, false, List, [], ◌∷◌, ◌++◌, codes, Result, Ok, Err, MatchResult, IfSome, if◌then◌else◌}
use Rattle.std.specs.Str.{bytes_eq}
use Rattle.std.specs.declared.option.Option.{Option}
use Rattle.std.specs.Io.KnownBytes.{Consumes}
use Rattle.fsoe_io.specs.Line.{IsLine}
use Rattle.schedule_file.specs.Header.{Heading, heading_new, heading_after, heading_is_whole}
use Rattle.schedule_file.specs.Input.{AtEnd, InputCause, Line, TooMany, lines_of, said_after}
use Rattle.schedule_file.specs.Limits.{max_events}
use Rattle.schedule_file.specs.LinesLeft.{lines_left}
use Rattle.schedule_file.specs.declared.event.ScheduleLine.{ScheduleLine}
use Rattle.schedule_file.specs.declared.event.ScheduleLine.TheVariants as said
use Rattle.schedule_file.specs.declared.header_kind.HeaderKind.TheVariants as header_kind
use Rattle.schedule_file.specs.declared.line_cause.LineCause.{LineCause}
use Rattle.file_run.specs.ByTitle.{first_line}
use Rattle.file_run.specs.Refusal.{input_cause}
use Rattle.file_run.specs.declared.halt.Halt.{Halt}
use Rattle.file_run.specs.declared.halt.Halt.TheVariants as halt
use Rattle.file_run.specs.declared.refusal.Refusal.{Refusal}
use Rattle.pair_convert.specs.Convert.{event_text, last_text, line_text, title_text}

-- what was read of a pair file: its header, as far as it was read, and the number of its events
pub record PairRead : Type 0 where
  pub heading : Heading
  pub events : ℕ

-- no line was read
abbrev pub read_none : PairRead
read_none = record { heading = heading_new header_kind.Pair; events = 0 }

-- what is read after a line, what it is converted to, and whether it is the last
pub record LineTaken : Type 0 where
  pub next : PairRead
  pub text : List ℕ
  pub ends : Bool

-- what the line of a header of this number is converted to
abbrev pub header_piece : ℕ → List ℕ → List ℕ
header_piece number line = if number == 1 then title_text else line_text line

-- a line of the header
abbrev pub header_taken : ℕ → PairRead → List ℕ → Result Heading LineCause → Result LineTaken InputCause
header_taken number r line (Ok heading) = Ok (record { next = record r { heading = heading }; text = header_piece number line; ends = false })
header_taken number r line (Err cause) = Err (Line cause)

-- the last line
abbrev pub end_taken : PairRead → LineTaken
end_taken r = record { next = r; text = last_text AtEnd; ends = true }

-- a line after the header, by what it says
abbrev pub event_taken : PairRead → List ℕ → Result ScheduleLine LineCause → Result LineTaken InputCause
event_taken r line (Ok (said.Step event)) = Ok (record { next = record r { events = r.events + 1 }; text = event_text line; ends = false })
event_taken r line (Ok said.End) = Ok (end_taken r)
event_taken r line (Err cause) = Err (Line cause)

-- a line after all events that there may be: only the very line `end` may come
abbrev pub full_taken : PairRead → List ℕ → Result LineTaken InputCause
full_taken r line = if bytes_eq line (codes "end") then Ok (end_taken r) else Err TooMany

-- a line after the header
abbrev pub later_taken : PairRead → List ℕ → Result LineTaken InputCause
later_taken r line = if r.events == max_events then full_taken r line else event_taken r line (said_after header_kind.Pair r.heading line)

-- the line of this number
abbrev pub line_taken : ℕ → PairRead → List ℕ → Result LineTaken InputCause
line_taken number r line = if heading_is_whole r.heading then later_taken r line else header_taken number r line (heading_after r.heading line)

-- what is taken of the line of this number, where there is one
abbrev pub taken_by : ℕ → PairRead → Result (List ℕ) InputCause → Result LineTaken InputCause
taken_by number r (Ok line) = line_taken number r line
taken_by number r (Err why) = Err why

-- a call takes a line so
abbrev pub Takes : Result Bool Refusal → PairRead → List ℕ → Result LineTaken InputCause → Type 0
Takes result next text taken = MatchResult result (λ ends. taken ≡ Ok (record { next = next; text = text; ends = ends })) (λ why. taken ≡ Err (input_cause why))

-- the next line, which has this number, was taken so; or it is refused for this cause
abbrev pub FindsTaken : ℕ → PairRead → Result Bool Halt → PairRead → List ℕ → Option (List ℕ) → Option (List ℕ) → Type 0
FindsTaken number r (Ok ends) next text old new = (line : List ℕ) × IsLine line × Consumes old new (line ++ 10 ∷ []) × (line_taken number r line ≡ Ok (record { next = next; text = text; ends = ends }))
FindsTaken number r (Err (halt.Read lines)) next text old new = Unit {0}
FindsTaken number r (Err halt.Memory) next text old new = ⊥
FindsTaken number r (Err (halt.Refused line why)) next text old new = IfSome old (λ input. taken_by number r (first_line (lines_of input)) ≡ Err (input_cause why))

-- how many lines may still come before the last
abbrev pub left_to_take : PairRead → ℕ
left_to_take r = lines_left r.heading + (max_events - r.events)
