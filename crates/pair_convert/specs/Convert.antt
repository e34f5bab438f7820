-- What a pair file is converted to: a file of several pairs, of which it is the only one.
use Rattle.std.specs.Prelude.{◌≡◌, ℕ, ◌+◌, ◌-◌, ◌<◌, List, [], ◌∷◌, ◌++◌, codes, length, map, take, Result, Ok, Err, IsSomeAnd, Some}
use Rattle.std.specs.List.{flat_map}
use Rattle.std.specs.declared.option.Option.{Option}
use Rattle.std.specs.Io.KnownBytes.{Consumes, prepend_known}
use Rattle.fsoe_io.specs.Faults.{Rose}
use Rattle.fsoe_io.specs.Line.{HasNoNewline}
use Rattle.fsoe_io.specs.declared.status.Ended.{Ended}
use Rattle.fsoe_io.specs.declared.status.Status.{Status}
use Rattle.fsoe_io.specs.declared.status.Status.TheVariants as status
use Rattle.schedule_file.specs.Header.{Heading}
use Rattle.schedule_file.specs.PairsHeader.{PairsHeading, stage_after}
use Rattle.schedule_file.specs.PairsInput.{pairs_input}
use Rattle.schedule_file.specs.Input.{AtEnd, Input, InputOf, NoLine, Refused, Stop, WholeHeader, header_of, input_after, input_of, lines_of, schedule_format, texts}
use Rattle.schedule_file.specs.declared.event.Event.{Event}
use Rattle.schedule_file.specs.declared.pairs_line.PairsEvent.{PairsEvent}
use Rattle.schedule_file.specs.declared.pairs_line.PairsEvent.TheVariants as pairs_event
use Rattle.schedule_file.specs.declared.header_kind.HeaderKind.TheVariants as header_kind
use Rattle.file_run.specs.Ending.{Appended, LinesBefore, ReadLines}
use Rattle.file_run.specs.Outside.{CountsFaults, HadNoFault, Outside, Wrote}
use Rattle.file_run.specs.Ran.{ReadsWhole}
use Rattle.file_run.specs.Report.{refused_line}
use Rattle.file_run.specs.Reporting.{IsPrefix, refused_at}
use Rattle.file_run.specs.WholeLines.{ReadsUpTo}
use Rattle.duo_run.specs.Pairs.{Pair, entries_over, events_done, world_of}

-- a line with its newline
abbrev pub line_text : List ℕ → List ℕ
line_text line = line ++ 10 ∷ []

-- the lines that the first line gives: that of the header, and that of the only pair
abbrev pub title_text : List ℕ
title_text = codes "fsoe 2 pairs\npair 1\n"

-- the lines of a header: the first gives two, and each later one stands as it is
abbrev pub header_text : List (List ℕ) → List ℕ
header_text [] = []
header_text (title ∷ lines) = title_text ++ flat_map line_text lines

-- the line of an event: that of the only pair
abbrev pub event_text : List ℕ → List ℕ
event_text line = codes "1 " ++ line_text line

-- the last line: `end` stands, and another is refused
abbrev pub last_text : Stop → List ℕ
last_text AtEnd = codes "end\n"
last_text (Refused number why) = refused_line number why

-- how many lines stand before a refused one
abbrev pub lines_before : Stop → ℕ
lines_before AtEnd = 0
lines_before (Refused number why) = number - 1

-- the lines of the events of an input, of which these stand after its header, and the last one
abbrev pub events_text : Input → List (List ℕ) → List ℕ
events_text input lines = flat_map event_text (take (length input.events) lines) ++ last_text input.stop

-- the lines of an input before its stop, by its header, and the last one
abbrev pub converted_by : Result WholeHeader Stop → List (List ℕ) → List ℕ
converted_by (Ok headed) lines = header_text (take headed.lines lines) ++ events_text (input_after (schedule_format header_kind.Pair) headed) (texts headed.rest)
converted_by (Err stop) lines = header_text (take (lines_before stop) lines) ++ last_text stop

-- what the bytes of a pair file are converted to
abbrev pub converted : List ℕ → List ℕ
converted bytes = converted_by (header_of header_kind.Pair bytes) (texts (lines_of bytes))

-- how a conversion ends, by how its input stops
abbrev pub ended_at_stop : Stop → Ended
ended_at_stop AtEnd = record { status = status.Ok; place = 0 }
ended_at_stop (Refused number why) = refused_at number

-- the header of several pairs that has this one alone, after a line of it
abbrev pub only_pair : Heading → PairsHeading
only_pair h = record { stage = stage_after h; before = []; last = h }

-- an input of several pairs has this one alone, with these events, and stops by `end`
pub record IsOnePair (h : Heading) (events : List Event) (input : InputOf PairsHeading PairsEvent) : Type 0 where
  pub heading_is : input.heading ≡ Some (only_pair h)
  pub events_are : input.events ≡ map (λ event. pairs_event.One 1 event) events
  pub ends : input.stop ≡ AtEnd

-- a text has one pair, of which it says what the bytes of a pair file do: the same header and the same events, over
-- which both ends have the same entries
pub record SaysTheSame (input text : List ℕ) : Type 0 where
  pub one_pair : IsSomeAnd (input_of header_kind.Pair input).heading (λ h. IsOnePair h (input_of header_kind.Pair input).events (pairs_input text))
  pub entries : (p : Pair) → world_of 1 p (events_done (p ∷ []) (pairs_input text).events) ≡ entries_over p (input_of header_kind.Pair input).events

-- the whole text was written, and the conversion ended as its input stops
abbrev pub WroteAll : Ended → Outside → Type 0
WroteAll ended o = Wrote o (λ input text. (text ≡ converted input) × (ended ≡ ended_at_stop (input_of header_kind.Pair input).stop))

-- a line is refused, whose number is the place, and no more was read
pub record ConvertedToRefused (ended : Ended) (o : Outside) : Type 0 where
  pub number : LinesBefore ended.place o.source.before
  pub read : ReadsUpTo ended.place o.source.before o.source.after
  pub wrote : WroteAll ended o

-- the input came to its `end`, no more was read, and what was written says the same
pub record ConvertedToEnd (ended : Ended) (o : Outside) : Type 0 where
  pub place_is : ended.place ≡ 0
  pub read : ReadsWhole (schedule_format header_kind.Pair) o.source.before o.source.after
  pub wrote : WroteAll ended o
  pub same : Wrote o SaysTheSame

-- a text is what so many whole lines that were taken are converted to, without its last line, which says that no line
-- comes after them
pub record ConvertsReadLines (lines : ℕ) (input : List ℕ) (left : Option (List ℕ)) (text : List ℕ) : Type 0 where
  pub taken : List ℕ
  pub held : List ℕ
  pub goes : Consumes (Some input) (prepend_known held left) taken
  pub open_line : HasNoNewline held
  pub writes : converted taken ≡ text ++ refused_line (lines + 1) NoLine
  pub ends : ended_at_stop (input_of header_kind.Pair taken).stop ≡ refused_at (lines + 1)
  pub begins : IsPrefix text (converted input)

-- a read failed after so many whole lines, and what they are converted to was written
pub record ConvertRead (lines : ℕ) (o : Outside) : Type 0 where
  pub read : ReadLines lines o.source.before o.source.after
  pub wrote : Wrote o (λ input text. ConvertsReadLines lines input o.source.after text)
  pub cause : Rose o.source.faults_before o.source.faults_after

-- a write failed after so many bytes, and the whole text is longer
pub record ConvertWrite (bytes : ℕ) (o : Outside) : Type 0 where
  pub appended : Appended bytes o.sink.before o.sink.after
  pub wrote : Wrote o (λ input text. (bytes ≡ length text) × IsPrefix text (converted input) × (length text < length (converted input)))
  pub cause : Rose o.sink.faults_before o.sink.faults_after

-- what each status says of a conversion, with its place
abbrev pub ConvertedAs : Status → Ended → Outside → Type 0
ConvertedAs status.Ok ended o = ConvertedToEnd ended o
ConvertedAs status.Line ended o = ConvertedToRefused ended o
ConvertedAs status.Read ended o = ConvertRead ended.place o
ConvertedAs status.Write ended o = ConvertWrite ended.place o
ConvertedAs _ ended o = ⊥

-- an input was converted: how this ended, by its status; that the whole text was written, unless the source or the sink
-- had a fault; and what was counted
pub record RanConvert (ended : Ended) (o : Outside) : Type 0 where
  pub ends : ConvertedAs ended.status ended o
  pub completes : HadNoFault o.source → HadNoFault o.sink → WroteAll ended o
  pub faults : CountsFaults ended.status o
