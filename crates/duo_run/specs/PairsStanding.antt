-- What several pairs as they run stand for, and what a step of one and a tick of all do to them.
use Rattle.std.specs.Prelude.{◌≡◌, ℕ, ◌+◌, ◌^◌, ◌<◌, ◌≤◌, List, ◌∷◌, ◌++◌, length, Option, Some, is_some, slice_get}
use Rattle.std.specs.List.{AllZip}
use Rattle.fsoe_base.specs.declared.command.End.{End}
use Rattle.param_load.specs.declared.entry.Entry.{Entry}
use Rattle.param_load.specs.declared.master_settings.MasterSettings.{MasterSettings}
use Rattle.param_load.specs.declared.slave_settings.SlaveSettings.{SlaveSettings}
use Rattle.schedule_file.specs.PairsEvent.{numbered}
use Rattle.schedule_file.specs.PairsHeader.{PairsHeading, pairs_of}
use Rattle.schedule_file.specs.PairsInput.{entries_of}
use Rattle.schedule_file.specs.declared.event.Event.{Event}
use Rattle.schedule_file.specs.declared.pairs_line.PairsEvent.{PairsEvent}
use Rattle.exchange_model.specs.Other.{first_of_both, first_other}
use Rattle.exchange_model.specs.World.{entry_at}
use Rattle.duo_run.specs.Duo.{DuoView, DuoStands, Steps, lengths_of, profiles_of, steps_done}
use Rattle.duo_run.specs.Pairs.{Pair, entries_over, events_done, events_to, other_events}
use Rattle.duo_run.specs.PairsReport.{IsPairOf, lines_of_events, pair_entry_line, tick_lines, with_tick}

-- a pair stands for these events of its own, each of which has its entry
pub record StandsOver (p : Pair) (own : List Event) (v : DuoView) : Type 0 where
  pub stands : DuoStands p.master p.slave v (entries_over p own)
  pub whole : length (entries_over p own) ≡ length own

-- each pair does so, where this is what happened to the pair of a number
pub record AllStandOver (pairs : List Pair) (own : ℕ → List Event) (duos : List DuoView) : Type 0 where
  pub many : length duos ≡ length pairs
  pub each : (k : ℕ) (p : Pair) (v : DuoView) → numbered k pairs ≡ Some p → numbered k duos ≡ Some v → StandsOver p (own k) v

-- pairs stand for some events, and one event more can be counted of each
pub record CanStep (duos : List DuoView) : Type 0 where
  pub pairs : List Pair
  pub own : ℕ → List Event
  pub stand : AllStandOver pairs own duos
  pub few : (k : ℕ) → length (own k) + 1 < 2 ^ 64

-- the number of this event is noted for the pair in a place, where an entry of it is other and none was noted before
abbrev pub Notes : ℕ → List DuoView → ℕ → Option ℕ → Option ℕ → Type 0
Notes number duos j noted now = (v : DuoView) (ms : MasterSettings) (ss : SlaveSettings) (w : List Entry) → slice_get duos j ≡ Some v → DuoStands ms ss v w → now ≡ first_of_both noted (is_some (first_other w)) number

-- so for each pair
pub record NotesOthers (number : ℕ) (duos : List DuoView) (old new : List (Option ℕ)) : Type 0 where
  pub many : length new ≡ length old
  pub each : (j : ℕ) (noted now : Option ℕ) → slice_get old j ≡ Some noted → slice_get new j ≡ Some now → Notes number duos j noted now

-- at this event the pair of a number does the next entry of its world, which is this one, and its steps are counted
pub record StepsAt (k : ℕ) (old : List DuoView) (event : Event) (x : Entry) (new : List DuoView) : Type 0 where
  pub before : DuoView
  pub after : DuoView
  pub was : numbered k old ≡ Some before
  pub is : numbered k new ≡ Some after
  pub steps : Steps before event x after
  pub counts : steps_done after ≡ steps_done before + 1
  pub lengths : lengths_of after ≡ lengths_of before
  pub profiles : profiles_of after ≡ profiles_of before

-- the entry of an event after these of a pair, whose line, with these numbers of the event of all and of the pair, is
-- this; the pair stands for it and those before then
pub record ToldNext (ms : MasterSettings) (ss : SlaveSettings) (w : List Entry) (event : Event) (n k : ℕ) (new : DuoView) (line : List ℕ) : Type 0 where
  pub entry : Entry
  pub next : entry_at ms ss w event ≡ Some entry
  pub stands : DuoStands ms ss new (entry ∷ w)
  pub line_is : line ≡ pair_entry_line n k entry

-- at this event a pair does the next entry of its world, of which this is the line
pub record TellsNext (old : DuoView) (event : Event) (n k : ℕ) (new : DuoView) (line : List ℕ) : Type 0 where
  pub tells : (ms : MasterSettings) (ss : SlaveSettings) (w : List Entry) → DuoStands ms ss old w → ToldNext ms ss w event n k new line

-- pairs stand for what happened to each before and a tick of this end, of which the lines are appended
pub record Ticked (at : End) (n : ℕ) (pairs : List Pair) (own : ℕ → List Event) (before : List ℕ) (new : List DuoView) (after : List ℕ) : Type 0 where
  pub stand : AllStandOver pairs (with_tick at own) new
  pub lines : after ≡ before ++ tick_lines n own at 1 pairs

-- at the event of this number this end of each pair ticks, in their order, and their lines are appended
pub record Ticks (at : End) (n : ℕ) (old : List DuoView) (before : List ℕ) (new : List DuoView) (after : List ℕ) : Type 0 where
  pub ticks : (pairs : List Pair) (own : ℕ → List Event) → AllStandOver pairs own old → Ticked at n pairs own before new after

-- several pairs were set to what a header says, and stand for these events, of which this text has the lines
pub record PairsStand (duos : List DuoView) (others : List (Option ℕ)) (made : ℕ) (h : PairsHeading) (log : List PairsEvent) (text : List ℕ) : Type 0 where
  pub pairs : List Pair
  pub past : List PairsEvent
  pub set : AllZip IsPairOf (pairs_of h) pairs
  pub done : past ≡ events_done pairs log
  pub whole : length past ≡ length log
  pub stand : AllStandOver pairs (λ k. events_to k past) duos
  pub some : 0 < length (pairs_of h)
  pub few : length (pairs_of h) ≤ 16
  pub made_is : made ≡ entries_of (length (pairs_of h)) log
  pub others_are : others ≡ other_events 1 pairs past
  pub lines : text ≡ lines_of_events pairs past
