-- What the first tests of a delivered frame tell of it.
use Rattle.seq_chain.proofs.Common.{Frame, eqb-false, eqb-true, first_of, frame_len, frame_of, pointwise, reset_crcs, reset_view, zeros_follow}
use Rattle.std.proofs.Common.{◌≡◌, ◌≢◌, ◌==◌, nat_eq, ℕ, Bool, true, false, not, List, length, Option, Some, None, Result, Ok, Err, if◌then◌else◌, refl, arith}
use Rattle.fsoe_base.specs.declared.command.Code.{Code}
use Rattle.fsoe_base.specs.declared.command.Command.{Command}
use Rattle.fsoe_base.specs.declared.command.Command.TheVariants as command
use Rattle.fsoe_base.specs.declared.did.Dropped.TheVariants as dropped
use Rattle.fsoe_base.specs.Command.{command_of, code}
use Rattle.seq_chain.specs.declared.opened.Opened.{Opened}
use Rattle.seq_chain.specs.declared.opened.Opened.TheVariants as opened_as
use Rattle.seq_chain.specs.Opened.{reset_opened, command_opened, opened}

-- a frame that comes as far as the tests of its command
pub record ComesToCommand (l : ℕ) (repeats : Bool) (bytes : List ℕ) (c : Option Command) : Type 0 where
  pub len : length bytes ≡ frame_len l
  pub is_new : repeats ≡ false
  pub named : command_of (frame_of l bytes).cmd ≡ c

-- how the first tests end, and what they said
pub data Tested (l : ℕ) (repeats : Bool) (bytes : List ℕ) : Opened → Type 0 where
  HasOtherLength : length bytes ≢ frame_len l → Tested l repeats bytes (opened_as.Drop dropped.Length)
  IsRepeat : length bytes ≡ frame_len l → repeats ≡ true → Tested l repeats bytes (opened_as.Drop dropped.Repeat)
  UnknownCommand : ComesToCommand l repeats bytes None → Tested l repeats bytes (opened_as.Refuse (code 0x02))
  WrongReset : (found : Code) → ComesToCommand l repeats bytes (Some command.Reset) → reset_view (frame_of l bytes) ≡ Err found
      → Tested l repeats bytes (opened_as.Refuse found)
  IsReset : (said : Code) → ComesToCommand l repeats bytes (Some command.Reset) → reset_view (frame_of l bytes) ≡ Ok said
      → said ≡ code (first_of (frame_of l bytes).load) → Tested l repeats bytes (opened_as.ResetFrame said (frame_of l bytes))
  IsOfSession : (c : Command) → c ≢ command.Reset → ComesToCommand l repeats bytes (Some c)
      → Tested l repeats bytes (opened_as.OfSession (record { command = c; frame = frame_of l bytes }))

-- what a Reset frame says is its first data byte
said : (a b k : Bool) (x y z u v : Code) → (if not a then Err x else if not b then Err y else if not k then Err z else Ok u) ≡ Ok v → v ≡ u
said a b k x y z u v h = grind arith

said-first : (f : Frame) (x : Code) → reset_view f ≡ Ok x → x ≡ code (first_of f.load)
said-first f x h = said (f.conn == 0) (pointwise nat_eq f.crcs (reset_crcs f.load)) (zeros_follow f.load) (code 0x03) (code 0x04) (code 0x07) (code (first_of f.load)) x h

by-reset : (l : ℕ) (repeats : Bool) (bytes : List ℕ) (r : Result Code Code) → ComesToCommand l repeats bytes (Some command.Reset) → reset_view (frame_of l bytes) ≡ r
    → Tested l repeats bytes (reset_opened (frame_of l bytes) r)
by-reset l repeats bytes (Ok x) is h = IsReset x is h (said-first (frame_of l bytes) x h)
by-reset l repeats bytes (Err found) is h = WrongReset found is h

by-command : (l : ℕ) (repeats : Bool) (bytes : List ℕ) (o : Option Command) → ComesToCommand l repeats bytes o → Tested l repeats bytes (command_opened (frame_of l bytes) o)
by-command l repeats bytes None is = UnknownCommand is
by-command l repeats bytes (Some command.Reset) is = by-reset l repeats bytes (reset_view (frame_of l bytes)) is refl
by-command l repeats bytes (Some command.Session) is = IsOfSession command.Session (λ k. cc) is
by-command l repeats bytes (Some command.Connection) is = IsOfSession command.Connection (λ k. cc) is
by-command l repeats bytes (Some command.Parameter) is = IsOfSession command.Parameter (λ k. cc) is
by-command l repeats bytes (Some command.FailSafeData) is = IsOfSession command.FailSafeData (λ k. cc) is
by-command l repeats bytes (Some command.ProcessData) is = IsOfSession command.ProcessData (λ k. cc) is

by-length : (l : ℕ) (repeats : Bool) (bytes : List ℕ) (long : Bool) → (length bytes == frame_len l) ≡ long
    → Tested l repeats bytes (if long then (if repeats then opened_as.Drop dropped.Repeat else command_opened (frame_of l bytes) (command_of (frame_of l bytes).cmd)) else opened_as.Drop dropped.Length)
by-length l true bytes true h = IsRepeat (eqb-true (length bytes) (frame_len l) h) refl
by-length l false bytes true h = by-command l false bytes (command_of (frame_of l bytes).cmd) (record { len = eqb-true (length bytes) (frame_len l) h; is_new = refl; named = refl })
by-length l repeats bytes false h = HasOtherLength (eqb-false (length bytes) (frame_len l) h)

-- how they end for each delivered frame
pub tested : (l : ℕ) (repeats : Bool) (bytes : List ℕ) → Tested l repeats bytes (opened l repeats bytes)
tested l repeats bytes = by-length l repeats bytes (length bytes == frame_len l) refl
