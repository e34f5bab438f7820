-- What is said of an application.
use Rattle.std.specs.Prelude.{◌≡◌, ℕ, Bool, true, false, List}
use Rattle.failsafe_io.specs.declared.bit.Bit.{Bit}
use Rattle.failsafe_io.specs.Bits.{bit_at}

-- the outputs of a cycle, and what is held after it
pub record Answer : Type 0 where
  pub outputs : List (List ℕ)
  pub holds : List ℕ

-- an output bit that is guarded by an input bit is 0 where the input bit is 0
abbrev pub GuardsBy : (Bit → Bit → Bool) → List (List ℕ) → List (List ℕ) → Type 0
GuardsBy guards inputs outputs = (o i : Bit) → guards o i ≡ true → bit_at inputs i ≡ false → bit_at outputs o ≡ false
