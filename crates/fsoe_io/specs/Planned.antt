-- Calls that are planned to fail, by their numbers from 1.
use Rattle.std.specs.Prelude.{ℕ, ◌+◌, ◌-◌, ◌^◌, ◌==◌, nat_lt, zero, suc, Bool, ◌&&◌, List, min, if◌then◌else◌}
use Rattle.std.specs.List.{list_any}

-- the numbers of the calls that fail, and how many calls there were
pub record Planned : Type 0 where
  pub fails : List ℕ
  pub calls : ℕ

-- whether the call of this number is listed
abbrev pub is_listed : List ℕ → ℕ → Bool
is_listed fails call = list_any (λ listed. listed == call) fails

-- how many of the first calls are listed
abbrev pub listed_calls : List ℕ → ℕ → ℕ
listed_calls fails zero = 0
listed_calls fails (suc calls) = listed_calls fails calls + (if is_listed fails (suc calls) then 1 else 0)

-- the faults so far
abbrev pub planned_faults : Planned → ℕ
planned_faults planned = listed_calls planned.fails planned.calls

-- the same calls and one more; the count stays at 2^64 - 1
abbrev pub with_one_more : Planned → Planned
with_one_more planned = record { fails = planned.fails; calls = min (planned.calls + 1) (2 ^ 64 - 1) }

-- whether the next call is listed; no call after the first 2^64 - 1 has a number that can be listed
abbrev pub is_next_listed : Planned → Bool
is_next_listed planned = nat_lt planned.calls (2 ^ 64 - 1) && is_listed planned.fails (planned.calls + 1)
