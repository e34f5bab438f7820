-- What the sources and sinks in memory hold.
use Rattle.std.specs.Prelude.{ℕ, ◌+◌, ◌-◌, ◌^◌, ◌==◌, nat_lt, Bool, ◌&&◌, not, List, length, min, if◌then◌else◌}
use Rattle.std.specs.declared.option.Option.{Option}
use Rattle.fsoe_io.specs.Planned.{Planned, is_next_listed, planned_faults}

-- the bytes left of a source, the most that it gives in a call, and the calls that fail
pub record Feed : Type 0 where
  pub left : List ℕ
  pub most : ℕ
  pub planned : Planned

-- the bytes that a sink that never fails tells, until a piece doesn't fit into its room
pub record SureSinkView : Type 0 where
  pub written : Option (List ℕ)
  pub room : ℕ

-- the bytes that a sink took, the room for all of them, the most that it takes in a call, the calls that fail,
-- and how many others failed for want of room
pub record Store : Type 0 where
  pub written : List ℕ
  pub room : ℕ
  pub most : ℕ
  pub planned : Planned
  pub refusals : ℕ

-- whether a write finds no room: the piece has a byte, and the room is used up
abbrev pub finds_no_room : Store → List ℕ → Bool
finds_no_room store piece = nat_lt 0 (length piece) && length store.written == store.room

-- the refusals after a write: one more where it finds no room and isn't listed; the count stays at 2^64 - 1
abbrev pub refusals_after : Store → List ℕ → ℕ
refusals_after store piece =
    if finds_no_room store piece && not (is_next_listed store.planned) then min (store.refusals + 1) (2 ^ 64 - 1)
    else store.refusals

-- the faults so far: the listed calls and the refusals, up to 2^64 - 1
abbrev pub store_faults : Store → ℕ
store_faults store = min (planned_faults store.planned + store.refusals) (2 ^ 64 - 1)
