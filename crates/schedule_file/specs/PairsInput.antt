-- What the bytes of an input of several pairs say.
use Rattle.std.specs.Prelude.{ℕ, ◌+◌, ◌*◌, nat_le, length, map, List, [], ◌∷◌, Bool, Result}
use Rattle.schedule_file.specs.Input.{InputFormat, InputOf, input_read, own_length, heading_profile}
use Rattle.schedule_file.specs.Limits.{max_events}
use Rattle.schedule_file.specs.PairsEvent.{pairs_line}
use Rattle.schedule_file.specs.PairsHeader.{PairsHeading, pairs_heading_new, pairs_heading_after, pairs_heading_is_whole, pairs_of}
use Rattle.schedule_file.specs.PairsLine.{pairs_event_of}
use Rattle.schedule_file.specs.declared.line_cause.LineCause.{LineCause}
use Rattle.schedule_file.specs.declared.pairs_line.PairsEvent.{PairsEvent}
use Rattle.schedule_file.specs.declared.pairs_line.PairsEvent.TheVariants as pairs_event
use Rattle.schedule_file.specs.declared.pairs_line.PairsLine.{PairsLine}

-- what a line after a header says
abbrev pub pairs_said_after : PairsHeading → List ℕ → Result PairsLine LineCause
pairs_said_after h text = pairs_line (map own_length (pairs_of h)) (map heading_profile (pairs_of h)) text

-- how many entries an event makes, where there are so many pairs: a tick is one of both ends of each
abbrev pub entries_by : ℕ → PairsEvent → ℕ
entries_by pairs pairs_event.Tick = 2 * pairs
entries_by pairs (pairs_event.One pair event) = 1

-- how many entries events make
abbrev pub entries_of : ℕ → List PairsEvent → ℕ
entries_of pairs [] = 0
entries_of pairs (event ∷ events) = entries_by pairs event + entries_of pairs events

-- there may be no event after 200,000 entries
abbrev pub pairs_are_full : PairsHeading → List PairsEvent → Bool
pairs_are_full h events = nat_le max_events (entries_of (length (pairs_of h)) events)

-- how the lines of an input of several pairs are read
abbrev pub pairs_format : InputFormat PairsHeading PairsLine PairsEvent
pairs_format = record {
  start = pairs_heading_new;
  header_line = pairs_heading_after;
  is_whole = pairs_heading_is_whole;
  line = pairs_said_after;
  event = pairs_event_of;
  is_full = pairs_are_full;
}

-- what the bytes of an input of several pairs say
abbrev pub pairs_input : List ℕ → InputOf PairsHeading PairsEvent
pairs_input bytes = input_read pairs_format bytes
