-- What a call of a source, a sink or a desk answers.
use Rattle.std.specs.Prelude.{◌≡◌, ℕ, ◌≤◌, ◌<◌, Bool, true, false, List, [], length, take, Ok, Err, MatchResult, IfOk, OnOk, OnErr}
use Rattle.std.specs.declared.option.Option.{Option}
use Rattle.std.specs.declared.result.Result.{Result}
use Rattle.fsoe_io.specs.Faults.{Rose}
use Rattle.fsoe_io.specs.Sink.{Grew}
use Rattle.fsoe_io.specs.declared.desk.LoadFault.{LoadFault}
use Rattle.fsoe_io.specs.declared.desk.LoadFault.TheVariants.{Failed, TooLong, Memory}

-- `Ok(n)` appends the first n bytes of the piece, and `Err` appends nothing
abbrev pub WriteGrows : {E : Type 0} → Option (List ℕ) → Option (List ℕ) → Result ℕ E → List ℕ → Type 0
WriteGrows old new result piece = MatchResult result (λ n. Grew old new (take n piece)) (λ _. Grew old new [])

-- `Ok(n)` has n at most the length of the piece, and at least 1 where the piece has a byte
abbrev pub TakesSome : {E : Type 0} → Result ℕ E → List ℕ → Type 0
TakesSome result piece = IfOk result (λ n. (n ≤ length piece) × (0 < length piece → 0 < n))

-- the count didn't fall; where the call failed it rose by one, and else it stayed
pub record HasCause {T E : Type 0} (before now : ℕ) (result : Result T E) : Type 0 where
  pub later : before ≤ now
  pub failed : OnErr result (Rose before now)
  pub stayed : OnOk result (now ≡ before)

-- whether a load failed
abbrev pub has_failed : {T : Type 0} → Result T LoadFault → Bool
has_failed (Ok text) = false
has_failed (Err Failed) = true
has_failed (Err TooLong) = false
has_failed (Err Memory) = false
