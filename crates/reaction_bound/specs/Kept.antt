-- What a reaction keeps of what it heard, newest first.
use Rattle.std.specs.Prelude.{ℕ, ◌≡◌, ◌-◌, nat_le, List, [], ◌∷◌, Bool, true, false, Option, Some, None}
use Rattle.reaction_bound.specs.Reaction.{Heard, Quiet, Tick, heard_ticks, broken_of}

-- the first of two numbers, where there may be one
abbrev pub first_of : Option ℕ → ℕ → ℕ
first_of None n = n
first_of (Some first) n = first

-- the ticks that were heard before the stop was first heard to be quiet without being heard not to be after it; none
-- where it isn't quiet
abbrev pub quiet_from : List Heard → Option ℕ
quiet_from [] = None
quiet_from (Quiet true ∷ heard) = Some (first_of (quiet_from heard) (heard_ticks heard))
quiet_from (Quiet false ∷ heard) = None
quiet_from (Tick on ∷ heard) = quiet_from heard

-- whether at least so many of these ticks came since the stop was quiet, before which so many came
abbrev pub is_long : ℕ → ℕ → Option ℕ → Bool
is_long limit ticks None = false
is_long limit ticks (Some from) = nat_le limit (ticks - from)

-- what contracts see of a reaction: its limit, the ticks heard, those heard before the stop was quiet, and the number
-- of the first late one
pub record ReactionView : Type 0 where
  pub limit : ℕ
  pub ticks : ℕ
  pub quiet_from : Option ℕ
  pub broken : Option ℕ

-- a reaction of this limit that has heard this
abbrev pub view_of : ℕ → List Heard → ReactionView
view_of limit heard = record { limit = limit; ticks = heard_ticks heard; quiet_from = quiet_from heard; broken = broken_of limit heard }

-- a reaction that has heard some hears this too
pub record Hears (old : ReactionView) (next : Heard) (new : ReactionView) : Type 0 where
  pub hears : (limit : ℕ) (heard : List Heard) → old ≡ view_of limit heard → new ≡ view_of limit (next ∷ heard)
