-- What is left of an end when the same bytes come again and again with nothing in between, as from an image that is
-- polled. The rule is this profile's own.
use Rattle.std.specs.Prelude.{ℕ, ◌≡◌, List, ◌∷◌, false}
use Rattle.fsoe_base.specs.declared.command.State.TheVariants as state
use Rattle.fsoe_base.specs.declared.command.Command.TheVariants as command
use Rattle.seq_chain.specs.Reset.{reset_frame}
use Rattle.param_load.specs.declared.entry.Move.TheVariants as move
use Rattle.end_model.specs.Setup.{Setup, sends}
use Rattle.end_model.specs.Runs.{IsSlave}
use Rattle.end_model.specs.Deed.{Deed, is_empty}
use Rattle.end_model.specs.Readiness.{state_of, age}
use Rattle.end_model.specs.Outputs.{outputs}
use Rattle.end_model.specs.Step.{step, takes_frame}

-- the deeds after these bytes came once more
abbrev pub once_more : Setup → List ℕ → List Deed → List Deed
once_more s bytes e = step s e (move.Deliver bytes) ∷ e

-- a slave in state Reset takes a Reset frame, and answers it with Reset and code 0
pub record AnswersEachReset (s : Setup) (x : Deed) (e : List Deed) : Type 0 where
  pub by_slave : IsSlave s
  pub in_reset : state_of s e ≡ state.Reset
  pub load : List ℕ
  pub takes : x.did ≡ takes_frame command.Reset load
  pub answer : x.sent ≡ reset_frame 0 (sends s)

-- a deed leaves an end as it is, and sends nothing but that answer
pub record LeavesEnd (s : Setup) (x : Deed) (e : List Deed) : Type 0 where
  pub same_state : state_of s (x ∷ e) ≡ state_of s e
  pub same_outputs : outputs s (x ∷ e) ≡ outputs s e
  pub same_age : age s (x ∷ e) ≡ age s e
  pub answers : is_empty x.sent ≡ false → AnswersEachReset s x e
