-- Counts of ticked cycles, and the delays that keep them.
use Rattle.std.proofs.Common.{◌≡◌, ℕ, ◌-◌, ◌<◌, min, if◌then◌else◌, not, ◌||◌, Bool, List, [], ◌∷◌, arith}
use Rattle.fb_lib.specs.Cycle.{Cycle}
use Rattle.fb_lib.specs.Value.{ticked_cycles}
use Rattle.fb_lib.specs.Steps.{on_age, off_left}
use Rattle.std.proofs.lemmas.Grind.{common_steps}

-- the age of an on-delay after one more cycle
pub on_age-next : (n : ℕ) (c : Cycle) (e : List Cycle) (x : Bool) → n < 65536 → on_age n (min n (ticked_cycles e)) c.ticked x ≡ min n (ticked_cycles (if x then c ∷ e else []))
on_age-next n c e x h = grind (arith, common_steps)

-- what is left of an off-delay after one more cycle
pub off_left-next : (n : ℕ) (c : Cycle) (e : List Cycle) (x any : Bool) → n < 65536
    → off_left n (if any then n - ticked_cycles e else 0) c.ticked x ≡ (if x || any then n - ticked_cycles (if not x then c ∷ e else []) else 0)
off_left-next n c e x any h = grind (arith, common_steps)
