-- How often a connection did something since its counts were cleared, by looking back over its steps, newest first.
use Rattle.std.specs.Prelude.{◌≡◌, ◌<◌, ◌+◌, ◌==◌, ℕ, Bool, true, false, List, ◌∷◌, Option, Some, None, count_by, get_or, length, min}
use Rattle.fsoe_base.specs.declared.command.Code.{Code}
use Rattle.fsoe_base.specs.declared.did.Cause.{Cause}
use Rattle.fsoe_base.specs.declared.did.Cause.TheVariants as reset_cause
use Rattle.fsoe_base.specs.declared.did.Did.{Did}
use Rattle.fsoe_base.specs.declared.did.Dropped.{Dropped}
use Rattle.fsoe_base.specs.declared.did.Dropped.TheVariants as why
use Rattle.fsoe_base.specs.declared.did.Took.{Took}
use Rattle.end_model.specs.Phases.{is_reset}
use Rattle.controller_c.specs.declared.counts.GpCounts.{GpCounts}

-- one more where this is so, up to the largest number of 32 bits
abbrev pub raised : Bool → ℕ → ℕ
raised true n = min (n + 1) 4294967295
raised false n = n

-- the number of steps that pass this test, at most the same
abbrev pub tally : (Did → Bool) → List Did → ℕ
tally test done = min (count_by test done) 4294967295

-- whether a Reset frame was taken: there a master begins a session
abbrev pub took_reset : Option Took → Bool
took_reset None = false
took_reset (Some took) = is_reset took.command

abbrev pub is_local : Option Cause → Bool
is_local (Some reset_cause.Local) = true
is_local _ = false

-- the codes 0 to 0Bh have a place of their own, and all others share one
abbrev pub code_place : Code → ℕ
code_place code = min code.0 12

-- where a reset by the slave is counted
abbrev pub peer_place : Option Cause → Option ℕ
peer_place (Some (reset_cause.Peer code)) = Some (code_place code)
peer_place _ = None

-- where a reset for a fault that the master found is counted
abbrev pub found_place : Option Cause → Option ℕ
found_place (Some (reset_cause.Found code)) = Some (code_place code)
found_place _ = None

-- where a dropped frame is counted
abbrev pub dropped_place : Option Dropped → Option ℕ
dropped_place None = None
dropped_place (Some why.Length) = Some 0
dropped_place (Some why.Repeat) = Some 1
dropped_place (Some why.InReset) = Some 2

-- whether a place is this one
abbrev pub is_place : Option ℕ → ℕ → Bool
is_place None k = false
is_place (Some place) k = place == k

-- each number is the tally of the steps with its place
pub record AreTallies (place_of : Did → Option ℕ) (numbers : List ℕ) (done : List Did) : Type 0 where
  pub each : (k : ℕ) → k < length numbers → get_or numbers k 0 ≡ tally (λ d. is_place (place_of d) k) done

-- the counts stand for these steps
pub record CountsStand (counts : GpCounts) (done : List Did) : Type 0 where
  pub sessions : counts.sessions ≡ tally (λ d. took_reset d.took) done
  pub local : counts.local ≡ tally (λ d. is_local d.reset) done
  pub peer : AreTallies (λ d. peer_place d.reset) counts.peer done
  pub found : AreTallies (λ d. found_place d.reset) counts.found done
  pub dropped : AreTallies (λ d. dropped_place d.dropped) counts.dropped done

-- what stood for some steps stands for these and this one
pub record CountsStep (old : GpCounts) (did : Did) (new : GpCounts) : Type 0 where
  pub stands : (done : List Did) → CountsStand old done → CountsStand new (did ∷ done)

-- the number at this place is raised, if there is a place, and no other
pub record RaisesAt (place : Option ℕ) (old new : List ℕ) : Type 0 where
  pub same : length new ≡ length old
  pub each : (k : ℕ) → get_or new k 0 ≡ raised (is_place place k) (get_or old k 0)

-- each connection's step is counted at it
pub record CountsEach (old : List GpCounts) (dids : List Did) (new : List GpCounts) : Type 0 where
  pub same : length new ≡ length old
  pub each : (k : ℕ) (c : GpCounts) (d : Did) → k < length old → CountsStep (get_or old k c) (get_or dids k d) (get_or new k c)
