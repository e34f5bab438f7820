-- Memory of the caller's that holds an end, or has room for one.
use base.Fraction.{full_share}
use base.Fml.{Fml, flt, fsep, ftrue}
use denote.RattleType.{RattleType}
use denote.RawPtr.{Ptr, block_ptr, null_ptr, count_of, lies_at, room_at}
use Rattle.std.specs.Prelude.{◌≡◌, ◌^◌, ℕ, Bool, true, false, Option, Some, None, if◌then◌else◌}
use Rattle.c_values.specs.declared.numbers.TheConstants.{NO_END, OK}

-- whether a pointer leads to memory: null doesn't
abbrev pub has_memory : Ptr → Bool
has_memory (block_ptr b o) = true
has_memory null_ptr = false

-- room for a value at p, and nothing at null
abbrev pub room_unless_null : RattleType → Ptr → Fml
room_unless_null R (block_ptr b o) = room_at R (block_ptr b o)
room_unless_null R null_ptr = ftrue

-- the value at p, or room for one
abbrev pub memory_at : (R : RattleType) → Ptr → Option R.Denot → Fml
memory_at R p (Some x) = lies_at R full_share p x
memory_at R p None = room_unless_null R p

-- this memory, so near the start of its block that its pointer can be compared with null
abbrev pub place_owns : (R : RattleType) → Ptr → Option R.Denot → Fml
place_owns R p held = fsep (flt (count_of p) (2 ^ 63)) (memory_at R p held)

-- this holds of the value, if one is there
abbrev pub IfThere : {V : Type 0} → Option V → (V → Type 0) → Type 0
IfThere {V = V} place P = (v : V) → place ≡ Some v → P v

-- this holds of the values that are there before a call and after it
abbrev pub Between : {V : Type 0} → Option V → Option V → (V → V → Type 0) → Type 0
Between old new P = IfThere old (λ v. IfThere new (P v))

-- the answer of a call: whether an end is there, and whether the one that is passes this test, else why it refuses
unfoldable pub answered : {V : Type 0} → Option V → (V → Bool) → ℕ → ℕ
answered None test why = NO_END
answered (Some end) test why = if test end then OK else why

-- the answer of a call that wants no more than that an end is there
abbrev pub served : Bool → ℕ
served true = OK
served false = NO_END
