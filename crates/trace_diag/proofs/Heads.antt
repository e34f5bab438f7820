-- The first byte of a frame to which no row on its command applies.
use Rattle.trace_diag.proofs.Common.{Command, End, Lengths, Noted, command_byte, command_of, frame_at, frame_len, frame_of, is_length, length_of, phase_due, phase_of}
use Rattle.std.proofs.Common.{◌≡◌, ℕ, List, [], ◌∷◌, length, Some, IsTrue, sym, ap, ◌∙◌, arith, rules}
use Rattle.trace_diag.proofs.PayloadRows.{of_phase_due, IsFrom, IsOfPhase}

-- the byte of a command
pub byte_of : (b : ℕ) (c : Command) → command_of b ≡ Some c → b ≡ command_byte c
byte_of b c h = search rules

-- a frame begins with the byte of a command, of the phase that is due
pub record HasHead (lengths : Lengths) (t : List Noted) (l : ℕ) (bytes : List ℕ) : Type 0 where
  pub command : Command
  pub tail : List ℕ
  pub is : bytes ≡ command_byte command ∷ tail
  pub due : phase_due lengths t ≡ phase_of command
  pub cmd_is : (frame_of l bytes).cmd ≡ command_byte command

none-long : (l : ℕ) → 0 ≡ frame_len l → ⊥
none-long l e = grind arith

head-of : (lengths : Lengths) (t : List Noted) (l : ℕ) (bytes : List ℕ) → IsTrue (is_length l) → length bytes ≡ frame_len l → IsOfPhase (phase_due lengths t) (command_of (frame_of l bytes).cmd) → HasHead lengths t l bytes
head-of lengths t l [] valid long c = absurd (none-long l long)
head-of lengths t l (b ∷ bytes) valid long c =
    let cmd-is : (frame_of l (b ∷ bytes)).cmd ≡ command_byte c.command = byte_of (frame_of l (b ∷ bytes)).cmd c.command c.is in
    record {
      command = c.command;
      tail = bytes;
      is = ap (λ (n : ℕ). n ∷ bytes) (sym (frame_at l (b ∷ bytes) valid long).cmd_is ∙ cmd-is);
      due = c.phase_is;
      cmd_is = cmd-is;
    }

pub head_of : (lengths : Lengths) (t : List Noted) (which : End) (x : Noted) → IsFrom lengths t which x → HasHead lengths t (length_of lengths which) x.frame
head_of lengths t which x h = search (rules, head-of, of_phase_due)
