-- A buffer in front of a sink.
use Rattle.std.specs.Prelude.{◌≡◌, ℕ, ◌+◌, ◌<◌, List, ◌++◌, length, Result, Ok, Err}
use Rattle.std.specs.declared.option.Option.{Option}
use Rattle.fsoe_io.specs.Sink.{Grew}

-- the bytes that wait, and how many went to the sink before
pub record OutputView : Type 0 where
  pub bytes : List ℕ
  pub sent : ℕ

-- a first part of what waited and of what came went to the sink, and the rest waits
pub record Passes (old new : OutputView) (before now : Option (List ℕ)) (piece rest : List ℕ) : Type 0 where
  pub part : List ℕ
  pub grew : Grew before now part
  pub whole : old.bytes ++ piece ≡ part ++ rest
  pub sent : new.sent ≡ old.sent + length part

-- a first part of what waited and of what came went to the sink, and the rest, which has a byte, is lost
pub record Loses (old new : OutputView) (before now : Option (List ℕ)) (piece rest : List ℕ) : Type 0 where
  pub passes : Passes old new before now piece rest
  pub more : 0 < length rest

-- the rest is what waits now; where the sink failed, it is lost
abbrev pub Puts : {T E : Type 0} → Result T E → OutputView → OutputView → Option (List ℕ) → Option (List ℕ) → List ℕ → Type 0
Puts (Ok x) old new before now piece = Passes old new before now piece new.bytes
Puts (Err e) old new before now piece = (rest : List ℕ) × Loses old new before now piece rest
