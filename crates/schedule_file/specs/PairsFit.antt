-- Which events the pairs of a schedule may have, and how their lines begin.
use Rattle.std.specs.Prelude.{◌≡◌, ℕ, Bool, true, false, List, ◌∷◌, ◌++◌, Option, Some, None, decimal}
use Rattle.fsoe_base.specs.declared.command.End.{End}
use Rattle.param_load.specs.declared.profile.Profile.{Profile}
use Rattle.schedule_file.specs.declared.event.Event.{Event}
use Rattle.schedule_file.specs.declared.header_kind.HeaderKind.TheVariants as header_kind
use Rattle.schedule_file.specs.declared.pairs_line.PairsEvent.{PairsEvent}
use Rattle.schedule_file.specs.declared.pairs_line.PairsEvent.TheVariants as pairs_event
use Rattle.schedule_file.specs.declared.pairs_line.PairsLine.{PairsLine}
use Rattle.schedule_file.specs.declared.pairs_line.PairsLine.TheVariants as said
use Rattle.schedule_file.specs.Event.{Fits}
use Rattle.schedule_file.specs.Header.{Heading}
use Rattle.schedule_file.specs.PairsEvent.{numbered}

-- an event fits the ends of a pair, where both are found what they send and their profiles
abbrev pub FitsEnds : Option (End → ℕ) → Option (End → Profile) → Event → Type 0
FitsEnds (Some sends) (Some profiles) event = Fits sends profiles event
FitsEnds None profiles event = ⊥
FitsEnds (Some sends) None event = ⊥

-- there is a pair of this number, and the event fits its ends
abbrev pub FitsPair : List (End → ℕ) → List (End → Profile) → ℕ → Event → Type 0
FitsPair sends profiles pair event = FitsEnds (numbered pair sends) (numbered pair profiles) event

-- the event of a line, where it is that of one pair, fits this
abbrev pub PairsLineFits : List (End → ℕ) → List (End → Profile) → PairsLine → Type 0
PairsLineFits sends profiles (said.One pair event) = FitsPair sends profiles pair event
PairsLineFits sends profiles other = Unit {0}

-- a line with the number of a pair before it
abbrev pub with_pair : ℕ → List ℕ → List ℕ
with_pair pair text = decimal pair ++ 32 ∷ text

-- the line of an event
abbrev pub line_of_event : PairsEvent → PairsLine
line_of_event pairs_event.Tick = said.Tick
line_of_event (pairs_event.One pair what) = said.One pair what

-- what is said where an event is kept: the event, or the end
abbrev pub said_in : Bool → PairsEvent → PairsLine
said_in true kept = said.End
said_in false kept = line_of_event kept

-- the header describes both ends of a pair
abbrev pub IsPair : Heading → Type 0
IsPair h = h.kind ≡ header_kind.Pair
