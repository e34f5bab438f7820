-- The count of ticks since the last frame. One tick for one unit of time, and the count itself, are this profile's own.
use Rattle.std.specs.Prelude.{ℕ, ◌+◌, ◌==◌, Bool, if◌then◌else◌}

-- a limit in ticks, and the ticks counted
pub record Timer : Type 0 where
  pub limit : ℕ
  pub age : ℕ

-- a watchdog that counts from 0
abbrev pub started : ℕ → Timer
started limit = record { limit = limit; age = 0 }

-- whether the next tick reaches the limit
abbrev pub expires : Timer → Bool
expires t = t.age + 1 == t.limit

-- one tick more, and from 0 again where the limit is reached
abbrev pub ticked : Timer → Timer
ticked t = record { limit = t.limit; age = if expires t then 0 else t.age + 1 }
