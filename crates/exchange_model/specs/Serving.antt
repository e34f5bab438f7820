-- What comes of a steady and of an honest schedule, and when both ends are in state Data. The state is the public
-- standard's; the numbers of deliveries are this profile's own.
use Rattle.std.specs.Prelude.{ℕ, suc, ◌≡◌, nat_le, nat_lt, IsTrue, IsSome, All, List, [], ◌∷◌, length, Bool, true, false, ◌&&◌, ◌||◌, not, Some, None, is_some, if◌then◌else◌}
use Rattle.fsoe_base.specs.declared.command.End.{End}
use Rattle.fsoe_base.specs.declared.command.End.TheVariants as side
use Rattle.fsoe_base.specs.declared.command.State.{State}
use Rattle.fsoe_base.specs.declared.command.State.TheVariants as state
use Rattle.fsoe_base.specs.declared.command.Command.TheVariants as command
use Rattle.fsoe_base.specs.declared.did.Dropped.TheVariants as why
use Rattle.fsoe_base.specs.Did.{dropped}
use Rattle.black_channel.specs.Altered.{back_th}
use Rattle.param_load.specs.declared.entry.Move.{Move}
use Rattle.param_load.specs.declared.entry.Move.TheVariants as move
use Rattle.param_load.specs.declared.entry.Entry.{Entry}
use Rattle.param_load.specs.declared.master_settings.MasterSettings.{MasterSettings}
use Rattle.schedule_file.specs.declared.event.Event.{Event}
use Rattle.end_model.specs.Phases.{same_phase, has_command}
use Rattle.end_model.specs.Deed.{is_empty}
use Rattle.exchange_model.specs.Ends.{same_end}
use Rattle.exchange_model.specs.World.{frames_of}
use Rattle.exchange_model.specs.Other.{NoOther}
use Rattle.exchange_model.specs.Fair.{data_taken}
use Rattle.exchange_model.specs.Honest.{exchanges}

-- whether an event is a delivery
abbrev pub is_delivery : Move → Bool
is_delivery (move.Deliver bytes) = true
is_delivery _ = false

-- whether a frame is coming to an end: its peer sent one, and none came since
abbrev pub is_coming : End → List Entry → Bool
is_coming which [] = false
is_coming which (x ∷ w) =
    if same_end which x.end then not (is_delivery x.what) && is_coming which w else not (is_empty x.sent) || is_coming which w

-- whether a frame comes in an entry, where w are the entries before it
abbrev pub comes : Entry → List Entry → Bool
comes x w = is_delivery x.what

-- whether a frame comes for the first time
abbrev pub comes_new : Entry → List Entry → Bool
comes_new x w = is_delivery x.what && is_coming x.end w

-- whether a frame comes again
abbrev pub comes_again : Entry → List Entry → Bool
comes_again x w = is_delivery x.what && not (is_coming x.end w)

-- the number of frames that came to an end, by a test of what comes
abbrev pub number_to : (Entry → List Entry → Bool) → End → List Entry → ℕ
number_to test which [] = 0
number_to test which (x ∷ w) = if same_end which x.end && test x w then suc (number_to test which w) else number_to test which w

-- the number of deliveries to an end
abbrev pub deliveries_to : End → List Entry → ℕ
deliveries_to which w = number_to comes which w

-- the state that an end told last, and Reset where it told none
abbrev pub state_told : End → List Entry → State
state_told which [] = state.Reset
state_told which (x ∷ w) = if same_end which x.end then x.state else state_told which w

-- whether an end is in state Data
abbrev pub in_data : End → List Entry → Bool
in_data which w = same_phase state.Data (state_told which w)

-- the master is in Data exactly where at least n frames came to it, and the slave exactly where more than n came to it,
-- by a test of what comes
pub record InDataAfter (test : Entry → List Entry → Bool) (n : ℕ) (w : List Entry) : Type 0 where
  pub master : in_data side.Master w ≡ nat_le n (number_to test side.Master w)
  pub slave : in_data side.Slave w ≡ nat_lt n (number_to test side.Slave w)

-- that holds before the first entry and after each
abbrev pub InDataThroughout : (Entry → List Entry → Bool) → ℕ → List Entry → Type 0
InDataThroughout test n [] = InDataAfter test n []
InDataThroughout test n (x ∷ w) = InDataAfter test n (x ∷ w) × InDataThroughout test n w

-- an entry has no reset
abbrev pub HasNoReset : Entry → Type 0
HasNoReset x = x.did.reset ≡ None

-- what is delivered in an entry is taken
abbrev pub TakesDelivery : Entry → Type 0
TakesDelivery x = IsTrue (is_delivery x.what) → IsSome x.did.took

-- a slave in state Reset answers with the Reset frame that it sent last
pub record AnswersAgain (x : Entry) (w : List Entry) : Type 0 where
  pub by_slave : x.end ≡ side.Slave
  pub in_reset : x.state ≡ state.Reset
  pub of_reset : has_command command.Reset x.sent ≡ true
  pub same_answer : back_th 1 (frames_of side.Slave w) ≡ Some x.sent

-- what becomes of a frame that comes again
pub data IsRepeated (x : Entry) (w : List Entry) : Type 0 where
  -- it is dropped as a repeat
  IsDropped : x.did ≡ dropped why.Repeat → IsRepeated x w
  -- it is a Reset frame, which is answered again
  IsAnswered : AnswersAgain x w → IsRepeated x w

-- a frame that comes is taken once
pub record TakesOnce (x : Entry) (w : List Entry) : Type 0 where
  pub taken : IsTrue (comes_new x w) → IsSome x.did.took
  pub repeated : IsTrue (comes_again x w) → IsRepeated x w

-- that holds of each entry
abbrev pub TakesOnceThroughout : List Entry → Type 0
TakesOnceThroughout [] = Unit {0}
TakesOnceThroughout (x ∷ w) = TakesOnce x w × TakesOnceThroughout w

-- an entry takes data exactly where a frame comes and at least n came to its end before, by a test of what comes
abbrev pub TakesDataAfter : (Entry → List Entry → Bool) → ℕ → Entry → List Entry → Type 0
TakesDataAfter test n x w = is_some (data_taken x.did.took) ≡ (test x w && nat_le n (number_to test x.end w))

-- that holds of each entry
abbrev pub TakesDataThroughout : (Entry → List Entry → Bool) → ℕ → List Entry → Type 0
TakesDataThroughout test n [] = Unit {0}
TakesDataThroughout test n (x ∷ w) = TakesDataAfter test n x w × TakesDataThroughout test n w

-- a run over a schedule serves steadily: it is whole, no entry is other, no session ends, each frame is taken once, the
-- master is in Data from the last of the exchanges before the first data on, the slave from the next frame on that
-- comes to it for the first time, and each such frame gives data from then on
pub record ServesSteadily (ms : MasterSettings) (events : List Event) (w : List Entry) : Type 0 where
  pub whole : length w ≡ length events
  pub no_other : NoOther w
  pub no_reset : All HasNoReset w
  pub once : TakesOnceThroughout w
  pub reaches_data : InDataThroughout comes_new (exchanges ms) w
  pub takes_data : TakesDataThroughout comes_new (exchanges ms) w

-- a run over a schedule serves: it is whole, no entry is other, no session ends, each delivery is taken, the master is
-- in Data from the last of the exchanges before the first data on, the slave from its next delivery on, and each
-- delivery to an end takes data from then on
pub record Serves (ms : MasterSettings) (events : List Event) (w : List Entry) : Type 0 where
  pub whole : length w ≡ length events
  pub no_other : NoOther w
  pub no_reset : All HasNoReset w
  pub taken : All TakesDelivery w
  pub reaches_data : InDataThroughout comes (exchanges ms) w
  pub takes_data : TakesDataThroughout comes (exchanges ms) w
