-- What a replay of several pairs reports: the lines of their entries in the order of events, and last how the run
-- stops; and what holds of the entries of each pair. Events of all pairs are listed newest first.
use Rattle.std.specs.Prelude.{◌≡◌, ℕ, suc, ◌+◌, List, [], ◌∷◌, ◌++◌, length, codes, decimal, true, Option, Some, None, IfSome}
use Rattle.std.specs.List.{AllZip}
use Rattle.fsoe_base.specs.declared.command.End.{End}
use Rattle.fsoe_base.specs.declared.command.End.TheVariants as side
use Rattle.fsoe_io.specs.declared.status.Ended.{Ended}
use Rattle.param_load.specs.declared.entry.Entry.{Entry}
use Rattle.schedule_file.specs.Header.{Heading}
use Rattle.schedule_file.specs.Input.{InputOf, Stop, AtEnd, Refused}
use Rattle.schedule_file.specs.PairsEvent.{numbered}
use Rattle.schedule_file.specs.PairsHeader.{PairsHeading, pairs_of}
use Rattle.schedule_file.specs.PairsInput.{pairs_format, pairs_input}
use Rattle.schedule_file.specs.declared.event.Event.{Event}
use Rattle.schedule_file.specs.declared.event.Event.TheVariants as event
use Rattle.schedule_file.specs.declared.pairs_line.PairsEvent.{PairsEvent}
use Rattle.schedule_file.specs.declared.pairs_line.PairsEvent.TheVariants as pairs_event
use Rattle.schedule_file.specs.declared.pairs_line.PairsLine.{PairsLine}
use Rattle.file_run.specs.Outside.{Outside}
use Rattle.file_run.specs.Ran.{RanOver}
use Rattle.file_run.specs.Report.{ended_with, events_line, other_line, refused_line}
use Rattle.file_run.specs.Reporting.{Reporting, BeforeEvents, refused_at}
use Rattle.exchange_model.specs.Fair.{Fair}
use Rattle.exchange_model.specs.Other.{before_other}
use Rattle.duo_run.specs.Pairs.{Pair, entry_after, events_done, events_to, least, other_events, world_of}
use Rattle.duo_run.specs.Replay.{AreSetTo, stop_after, told_line}

-- the line of an entry of the pair of this number, at the event of this number
abbrev pub pair_entry_line : ℕ → ℕ → Entry → List ℕ
pair_entry_line n k x = decimal n ++ codes " " ++ decimal k ++ codes " " ++ told_line x.end x.did x.state x.outputs x.sent

-- the line of an entry of the pair of this number, where there is an entry
abbrev pub line_if : ℕ → ℕ → Option Entry → List ℕ
line_if n k None = []
line_if n k (Some x) = pair_entry_line n k x

-- the lines of these one after another, of which the first has the number k
abbrev pub each_line : {X : Type 0} → (ℕ → X → List ℕ) → ℕ → List X → List ℕ
each_line line k [] = []
each_line line k (x ∷ xs) = line k x ++ each_line line (suc k) xs

-- the lines of a tick at one end of each pair, of which the first has the number k, after what happened to each
abbrev pub tick_lines : ℕ → (ℕ → List Event) → End → ℕ → List Pair → List ℕ
tick_lines n own at k pairs = each_line (λ k p. line_if n k (entry_after p (own k) (event.Tick at))) k pairs

-- what happened to each pair once this end of it has ticked too
abbrev pub with_tick : End → (ℕ → List Event) → ℕ → List Event
with_tick at own k = own k ++ event.Tick at ∷ []

-- the line of an event of one pair
abbrev pub one_line : ℕ → ℕ → List PairsEvent → Event → Option Pair → List ℕ
one_line n k past own None = []
one_line n k past own (Some p) = line_if n k (entry_after p (events_to k past) own)

-- the lines of the event of this number: of a tick those of all slaves, and then those of all masters, in the order of
-- pairs
abbrev pub event_lines : ℕ → List Pair → List PairsEvent → PairsEvent → List ℕ
event_lines n pairs past pairs_event.Tick =
    tick_lines n (λ k. events_to k past) side.Slave 1 pairs ++ tick_lines n (with_tick side.Slave (λ k. events_to k past)) side.Master 1 pairs
event_lines n pairs past (pairs_event.One k own) = one_line n k past own (numbered k pairs)

-- the lines of all these events
abbrev pub lines_of_events : List Pair → List PairsEvent → List ℕ
lines_of_events pairs [] = []
lines_of_events pairs (event ∷ past) = lines_of_events pairs past ++ event_lines (length past + 1) pairs past event

-- the closing line of the pair of this number: it names the event with its first other entry
abbrev pub closing_line : ℕ → Option ℕ → List ℕ
closing_line k other = codes "pair " ++ decimal k ++ codes " " ++ other_line other

-- those of pairs, of which the first has the number k
abbrev pub closing_lines : ℕ → List (Option ℕ) → List ℕ
closing_lines k others = each_line closing_line k others

-- the last lines of a run of these events, which stops so
abbrev pub pairs_last_lines : List Pair → List PairsEvent → Stop → List ℕ
pairs_last_lines pairs past AtEnd = events_line (length past) ++ closing_lines 1 (other_events 1 pairs past)
pairs_last_lines pairs past (Refused number why) = refused_line number why

-- how a run of these events ends that stops so, where neither a read nor a write failed: at the least number of an
-- event with an other entry
abbrev pub pairs_ended : List Pair → List PairsEvent → Stop → Ended
pairs_ended pairs past AtEnd = ended_with (least (other_events 1 pairs past))
pairs_ended pairs past (Refused number why) = refused_at number

-- what several pairs' inputs say
abbrev pub PairsInput : Type 0
PairsInput = InputOf PairsHeading PairsEvent

-- both ends of a pair are set to what its lines say
abbrev pub IsPairOf : Heading → Pair → Type 0
IsPairOf h p = AreSetTo h p.master p.slave

-- the pairs of a header; without a whole header there are none
abbrev pub ArePairs : Option PairsHeading → List Pair → Type 0
ArePairs None pairs = pairs ≡ []
ArePairs (Some h) pairs = AllZip IsPairOf (pairs_of h) pairs

-- how a run over an input stops whose done events are these
abbrev pub pairs_stop : PairsInput → List PairsEvent → Stop
pairs_stop input past = stop_after input (length past)

-- the whole report of several pairs over an input, and how a run that writes it ends
abbrev pub PairsReports : PairsInput → Ended → List ℕ → Type 0
PairsReports input ended text =
    (pairs : List Pair) × ArePairs input.heading pairs
    × (let past : List PairsEvent = events_done pairs input.events in text ≡ lines_of_events pairs past ++ pairs_last_lines pairs past (pairs_stop input past))
    × (let past : List PairsEvent = events_done pairs input.events in ended ≡ pairs_ended pairs past (pairs_stop input past))

-- what a replay of several pairs reports; all memory is taken before their first event
abbrev pub pairs_reporting : Reporting PairsHeading PairsLine PairsEvent
pairs_reporting = record { format = pairs_format; judges = true; memory = BeforeEvents; reports = PairsReports }

-- over an input's events, the entries of each pair before its first other entry, all if there is none, are fair
abbrev pub PairsRunFairly : PairsInput → Type 0
PairsRunFairly input = IfSome input.heading (λ h.
    (pairs : List Pair) (k : ℕ) (p : Pair) → AllZip IsPairOf (pairs_of h) pairs → numbered k pairs ≡ Some p → Fair p.master.lengths (before_other (world_of k p (events_done pairs input.events))))

-- several pairs ran over an input; and, where its bytes are told, the law of the pair holds of the entries of each
pub record RanPairs (ended : Ended) (o : Outside) : Type 0 where
  pub run : RanOver pairs_reporting ended o
  pub fair : IfSome o.source.before (λ input. PairsRunFairly (pairs_input input))
