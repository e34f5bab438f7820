-- How session ids differ, as far as the chain of a session carries it on, and how an old frame is refused then.
use Rattle.std.specs.Prelude.{◌≡◌, ◌≢◌, ℕ, ◌%◌, ◌==◌, bit_xor, List, false, if◌then◌else◌}
use Rattle.fsoe_base.specs.declared.did.Cause.TheVariants as reset_cause
use Rattle.fsoe_base.specs.Codes.{wrong_crc}
use Rattle.fsoe_base.specs.Did.{resets}
use Rattle.seq_chain.specs.FreshIds.{step_in_load}
use Rattle.param_load.specs.declared.entry.Move.TheVariants as move
use Rattle.end_model.specs.Setup.{Setup, piece_len}
use Rattle.end_model.specs.Deed.{Deed}
use Rattle.end_model.specs.Verdict.{Refused, verdict}
use Rattle.end_model.specs.Step.{step}

-- the part of a session id that the first group of the first Session frame carries: its low 8 bits where a piece has
-- one byte, else its low 16
abbrev pub id_front : Setup → ℕ → ℕ
id_front s id = if piece_len s == 1 then id % 256 else id % 65536

-- two session ids differ there
abbrev pub DifferInFront : Setup → ℕ → ℕ → Type 0
DifferInFront s id id' = id_front s id ≢ id_front s id'

-- they don't differ there by 9985h, the difference that is to the CRCs what a step of the number from 2 to 3 is
abbrev pub NotByStep : Setup → ℕ → ℕ → Type 0
NotByStep s id id' = bit_xor (id_front s id) (id_front s id') ≢ step_in_load

-- a frame passes all tests before that of its CRCs, and not this one, and so the session ends
pub record EndsByCrcs (s : Setup) (e : List Deed) (bytes : List ℕ) : Type 0 where
  pub refused : verdict s e bytes ≡ Refused wrong_crc
  pub ends : (step s e (move.Deliver bytes)).did ≡ resets false (reset_cause.Found wrong_crc)
