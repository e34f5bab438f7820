-- The bits of the images of many connections, which are numbered from 1.
use Rattle.std.specs.Prelude.{ℕ, zero, suc, ◌*◌, ◌==◌, nat_lt, Bool, ◌&&◌, List, [], get_or}
use Rattle.fsoe_base.specs.Image.{bit_of}
use Rattle.failsafe_io.specs.declared.bit.Bit.{Bit}

-- what a list has at a number, counted from 1, or else
abbrev pub at_number : {A : Type 0} → List A → ℕ → A → A
at_number xs zero none = none
at_number xs (suc k) none = get_or xs k none

-- whether there is such a bit in images of these lengths
abbrev pub has_bit : List ℕ → Bit → Bool
has_bit lens b = nat_lt b.bit (8 * at_number lens b.link 0)

-- the value of a bit of these images; a bit that doesn't exist is 0
abbrev pub bit_at : List (List ℕ) → Bit → Bool
bit_at images b = bit_of (at_number images b.link []) b.bit

-- whether two are the same bit
abbrev pub is_same_bit : Bit → Bit → Bool
is_same_bit a b = a.link == b.link && a.bit == b.bit
