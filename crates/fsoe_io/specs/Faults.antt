-- What a count of faults says of a call that failed.
use Rattle.std.specs.Prelude.{◌≡◌, ◌≢◌, ℕ, ◌+◌, ◌-◌, ◌^◌}

-- the count is one more than before, unless it is 2^64 - 1, where a count of 64 bits stays
abbrev pub Rose : ℕ → ℕ → Type 0
Rose before now = now ≢ 2 ^ 64 - 1 → now ≡ before + 1
