-- What the bytes of an input say: its header, its events, and how it stops. This looks at the lines alone: first how
-- the lines of any input are read, and then those of schedules.
use Rattle.std.specs.Prelude.{ℕ, ◌+◌, ◌==◌, nat_le, length, map, List, [], ◌∷◌, ◌++◌, Bool, codes, Option, Some, None, Result, Ok, Err, if◌then◌else◌, slice_get}
use Rattle.std.specs.List.{slice_split}
use Rattle.std.specs.Str.{bytes_eq}
use Rattle.fsoe_base.specs.declared.command.End.{End}
use Rattle.fsoe_base.specs.declared.command.End.TheVariants as side
use Rattle.param_load.specs.declared.profile.Profile.{Profile}
use Rattle.schedule_file.specs.Header.{Heading, heading_new, heading_after, heading_is_whole}
use Rattle.schedule_file.specs.Limits.{max_events, max_line}
use Rattle.schedule_file.specs.NodeEvent.{node_line}
use Rattle.schedule_file.specs.PairEvent.{pair_line}
use Rattle.schedule_file.specs.declared.event.Event.{Event}
use Rattle.schedule_file.specs.declared.event.ScheduleLine.{ScheduleLine}
use Rattle.schedule_file.specs.declared.event.ScheduleLine.TheVariants as line
use Rattle.schedule_file.specs.declared.header_kind.HeaderKind.{HeaderKind}
use Rattle.schedule_file.specs.declared.header_kind.HeaderKind.TheVariants.{Pair, Node}
use Rattle.schedule_file.specs.declared.line_cause.LineCause.{LineCause}

-- why an input goes no further: its next line is too long, has no newline, doesn't come, or comes after all events that
-- there may be; or the frame that the line names wasn't sent, or no application of its name is left, which a run alone
-- finds; or the line itself is refused. `NoLine` is the cause that reports name `End`
pub data InputCause : Type 0 where
  Long : InputCause
  NoNewline : InputCause
  NoLine : InputCause
  TooMany : InputCause
  NoFrame : InputCause
  NoApp : InputCause
  Line : (cause : LineCause) → InputCause

-- an input stops by its line `end`, or at the line of a number, from 1
pub data Stop : Type 0 where
  AtEnd : Stop
  Refused : (number : ℕ) (why : InputCause) → Stop

-- a line of at most 640 bytes
abbrev pub whole_line : List ℕ → Result (List ℕ) InputCause
whole_line text = if nat_le (length text) max_line then Ok text else Err Long

-- what stands after the last newline is no line
abbrev pub open_line : List ℕ → List (Result (List ℕ) InputCause)
open_line [] = []
open_line (b ∷ text) = Err (if nat_le (length (b ∷ text)) max_line then NoNewline else Long) ∷ []

-- the parts between newlines are lines, but for the last
abbrev pub lines_in : List (List ℕ) → List (Result (List ℕ) InputCause)
lines_in [] = []
lines_in (last ∷ []) = open_line last
lines_in (text ∷ next ∷ parts) = whole_line text ∷ lines_in (next ∷ parts)

-- the lines of an input without their newlines, each with its bytes or why it is none
abbrev pub lines_of : List ℕ → List (Result (List ℕ) InputCause)
lines_of bytes = lines_in (slice_split (λ b. b == 10) bytes)

-- how the lines of an input are read, where H is what a header says, L what a line after it says, and E an event
pub record InputFormat (H L E : Type 0) : Type 0 where
  -- the header of which no line is read
  pub start : H
  -- a header after its next line, or why that line is refused
  pub header_line : H → List ℕ → Result H LineCause
  -- whether a header is done
  pub is_whole : H → Bool
  -- what a line after it says, or why that line is refused
  pub line : H → List ℕ → Result L LineCause
  -- the event of such a line; the last line has none
  pub event : L → Option E
  -- whether there may be no event after these
  pub is_full : H → List E → Bool

-- a header that is done, the number of its lines, and the lines after it
pub record WholeHeaderOf (H : Type 0) : Type 0 where
  pub heading : H
  pub lines : ℕ
  pub rest : List (Result (List ℕ) InputCause)

-- a header after the line of this number: it is done, or goes on, or the line is refused
abbrev pub header_step : {H : Type 0} → (H → Bool) → ℕ → List (Result (List ℕ) InputCause) → (H → Result (WholeHeaderOf H) Stop) → Result H LineCause → Result (WholeHeaderOf H) Stop
header_step is_whole number rest go_on (Ok h) = if is_whole h then Ok (record { heading = h; lines = number; rest = rest }) else go_on h
header_step is_whole number rest go_on (Err cause) = Err (Refused number (Line cause))

-- the header of lines of which the first has this number
abbrev pub header_in : {H L E : Type 0} → InputFormat H L E → ℕ → H → List (Result (List ℕ) InputCause) → Result (WholeHeaderOf H) Stop
header_in f number h [] = Err (Refused number NoLine)
header_in f number h (Err why ∷ rest) = Err (Refused number why)
header_in f number h (Ok text ∷ rest) = header_step f.is_whole number rest (λ next. header_in f (number + 1) next rest) (f.header_line h text)

-- an event, where there is one, before those that come after it
abbrev pub before_more : {E : Type 0} → Option E → List E → List E
before_more None more = []
before_more (Some event) more = event ∷ more

-- the events that stand before the first line that says none
abbrev pub steps : {L E : Type 0} → (L → Option E) → List (Result L LineCause) → List E
steps event [] = []
steps event (Ok line ∷ said) = before_more (event line) (steps event said)
steps event (Err cause ∷ said) = []

-- the lines that stand before the first that is none
abbrev pub texts : List (Result (List ℕ) InputCause) → List (List ℕ)
texts [] = []
texts (Ok text ∷ rest) = text ∷ texts rest
texts (Err why ∷ rest) = []

-- the first of these events that come after others, each as long as those before it leave room
abbrev pub with_room : {E : Type 0} → (List E → Bool) → List E → List E → List E
with_room is_full log [] = []
with_room is_full log (event ∷ more) = if is_full log then [] else event ∷ with_room is_full (log ++ event ∷ []) more

-- the events after a header, as many as there may be
abbrev pub events_after : {H L E : Type 0} → InputFormat H L E → H → List (Result (List ℕ) InputCause) → List E
events_after f h rest = with_room (f.is_full h) [] (steps f.event (map (f.line h) (texts rest)))

-- how an input stops where no event may come: only the very line `end` may
abbrev pub stop_full : ℕ → List ℕ → Stop
stop_full number text = if bytes_eq text (codes "end") then AtEnd else Refused number TooMany

-- how an input stops at a line by its event; one that has an event stops it only where no event may come
abbrev pub stop_said : {E : Type 0} → ℕ → Option E → Stop
stop_said number None = AtEnd
stop_said number (Some event) = Refused number TooMany

-- how an input stops at a line by what it says
abbrev pub stop_by : {L E : Type 0} → (L → Option E) → ℕ → Result L LineCause → Stop
stop_by event number (Ok line) = stop_said number (event line)
stop_by event number (Err cause) = Refused number (Line cause)

-- how an input stops at the line of this number, after its events, after which there may be no other, or may be
abbrev pub stop_at : {H L E : Type 0} → InputFormat H L E → H → ℕ → Bool → Option (Result (List ℕ) InputCause) → Stop
stop_at f h number full None = Refused number NoLine
stop_at f h number full (Some (Err why)) = Refused number why
stop_at f h number full (Some (Ok text)) = if full then stop_full number text else stop_by f.event number (f.line h text)

-- what an input says: its header where that is done, the number of its lines (0 where it isn't done), its events, and
-- how it stops
pub record InputOf (H E : Type 0) : Type 0 where
  pub heading : Option H
  pub lines : ℕ
  pub events : List E
  pub stop : Stop

-- the events stand in the lines after the header, and the line after them stops the input
abbrev pub input_after : {H L E : Type 0} → InputFormat H L E → WholeHeaderOf H → InputOf H E
input_after f headed =
    let events = events_after f headed.heading headed.rest in
    record {
      heading = Some headed.heading;
      lines = headed.lines;
      events = events;
      stop = stop_at f headed.heading (headed.lines + length events + 1) (f.is_full headed.heading events) (slice_get headed.rest (length events));
    }

-- the input whose header ends so
abbrev pub input_by : {H L E : Type 0} → InputFormat H L E → Result (WholeHeaderOf H) Stop → InputOf H E
input_by f (Ok headed) = input_after f headed
input_by f (Err stop) = record { heading = None; lines = 0; events = []; stop = stop }

-- what the lines of these bytes say of a header
abbrev pub header_read : {H L E : Type 0} → InputFormat H L E → List ℕ → Result (WholeHeaderOf H) Stop
header_read f bytes = header_in f 1 f.start (lines_of bytes)

-- what the bytes of an input say
abbrev pub input_read : {H L E : Type 0} → InputFormat H L E → List ℕ → InputOf H E
input_read f bytes = input_by f (header_read f bytes)

-- the number of safe data bytes that an end sends, as a header says it
abbrev pub own_length : Heading → End → ℕ
own_length h side.Master = h.lengths.master
own_length h side.Slave = h.lengths.slave

-- the profile of an end, as a header says it
abbrev pub heading_profile : Heading → End → Profile
heading_profile h side.Master = h.master.profile
heading_profile h side.Slave = h.slave.profile

-- what a line says after a header of this kind, where the ends send so many safe data bytes and have these profiles
abbrev pub said_by : HeaderKind → (End → ℕ) → (End → Profile) → List ℕ → Result ScheduleLine LineCause
said_by Pair sends profiles text = pair_line sends profiles text
said_by (Node end) sends profiles text = node_line end sends (profiles end) text

-- what a line after a header says
abbrev pub said_after : HeaderKind → Heading → List ℕ → Result ScheduleLine LineCause
said_after kind h text = said_by kind (own_length h) (heading_profile h) text

-- the event of a line; `end` has none
abbrev pub event_of : ScheduleLine → Option Event
event_of (line.Step event) = Some event
event_of line.End = None

-- there may be no event after 200,000
abbrev pub is_full : List Event → Bool
is_full events = length events == max_events

-- how the lines of an input with a header of this kind are read
abbrev pub schedule_format : HeaderKind → InputFormat Heading ScheduleLine Event
schedule_format kind = record {
  start = heading_new kind;
  header_line = heading_after;
  is_whole = heading_is_whole;
  line = said_after kind;
  event = event_of;
  is_full = λ h. is_full;
}

-- a header of a schedule that is done
abbrev pub WholeHeader : Type 0
WholeHeader = WholeHeaderOf Heading

-- what an input of a schedule says
abbrev pub Input : Type 0
Input = InputOf Heading Event

-- what the lines of these bytes say of a header of this kind
abbrev pub header_of : HeaderKind → List ℕ → Result WholeHeader Stop
header_of kind bytes = header_read (schedule_format kind) bytes

-- what the bytes of an input with a header of this kind say
abbrev pub input_of : HeaderKind → List ℕ → Input
input_of kind bytes = input_read (schedule_format kind) bytes
