-- When a reaction is broken: a drive is on though its stop was quiet (pressed) for so many ticks. Lists of what was
-- heard are newest first.
use Rattle.std.specs.Prelude.{ℕ, suc, ◌-◌, nat_le, List, [], ◌∷◌, Bool, true, false, ◌||◌, Option, None}
use Rattle.exchange_model.specs.Other.{first_of_both}

-- what a reaction hears: whether the stop is quiet from now on, or that a tick ended with the drive on or off
pub data Heard : Type 0 where
  Quiet : Bool → Heard
  Tick : Bool → Heard

-- the ticks that were heard
abbrev pub heard_ticks : List Heard → ℕ
heard_ticks [] = 0
heard_ticks (Quiet is ∷ heard) = heard_ticks heard
heard_ticks (Tick on ∷ heard) = suc (heard_ticks heard)

-- whether at least n ticks came since the stop was heard to be quiet, without being heard not to be after it
abbrev pub quiet_for : ℕ → List Heard → Bool
quiet_for n [] = false
quiet_for n (Quiet true ∷ heard) = nat_le n 0 || quiet_for n heard
quiet_for n (Quiet false ∷ heard) = false
quiet_for n (Tick on ∷ heard) = quiet_for (n - 1) heard

-- whether the newest that was heard is a late tick: the drive is on with it, and the stop was quiet for so many ticks,
-- with it
abbrev pub is_late_tick : ℕ → List Heard → Bool
is_late_tick limit (Tick true ∷ heard) = quiet_for limit (Tick true ∷ heard)
is_late_tick limit _ = false

-- the number from 1 of the first late tick; none where no tick is late
abbrev pub broken_of : ℕ → List Heard → Option ℕ
broken_of limit [] = None
broken_of limit (next ∷ heard) = first_of_both (broken_of limit heard) (is_late_tick limit (next ∷ heard)) (heard_ticks (next ∷ heard))
