-- What it means that a maker stands for a number of which so many events were made.
use Rattle.std.specs.Prelude.{◌≡◌, ℕ, zero, suc, ◌-◌, ◌==◌, ◌%◌, min, Bool, true, false, if◌then◌else◌}
use Rattle.rand_pcg.specs.Lcg.{Lcg}
use Rattle.schedule_file.specs.Made.{generator_of, generator_after, event_at}
use Rattle.schedule_file.specs.declared.event.Event.{Event}

-- what contracts see of a maker: whether all its events are in turn, how many in turn were made, and the generator
pub record MakerView : Type 0 where
  pub endless : Bool
  pub turns : ℕ
  pub words : Lcg

-- of endless events in turn, 1 and 2 stand for each odd and each later even count
abbrev pub endless_turns : ℕ → ℕ
endless_turns count = if count == 0 then 0 else 2 - count % 2

-- a maker after so many events of a number
abbrev pub maker_after : ℕ → ℕ → MakerView
maker_after zero count = record { endless = true; turns = endless_turns count; words = generator_of 0 }
maker_after (suc number) count = record { endless = false; turns = min count 4; words = generator_after (suc number) (count - 4) }

-- a maker stands for a number of which so many events were made
abbrev pub IsMaker : ℕ → ℕ → MakerView → Type 0
IsMaker number count m = m ≡ maker_after number count

-- a maker makes the next event of the number for which it stands, and stands then for one event more
pub record Makes (old : MakerView) (event : Event) (new : MakerView) : Type 0 where
  pub makes : (number count : ℕ) → IsMaker number count old → event ≡ event_at number (suc count)
  pub stands : (number count : ℕ) → IsMaker number count old → IsMaker number (suc count) new
