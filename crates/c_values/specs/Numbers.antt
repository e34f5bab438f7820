-- The numbers that stand for words where C code reads them.
use Rattle.std.specs.Prelude.{ℕ, Bool, true, false, Option, Some, None}
use Rattle.fsoe_base.specs.Command.{command_byte}
use Rattle.fsoe_base.specs.declared.command.State.{State}
use Rattle.fsoe_base.specs.declared.command.State.TheVariants as state
use Rattle.fsoe_base.specs.declared.did.Cause.{Cause}
use Rattle.fsoe_base.specs.declared.did.Cause.TheVariants as reset_cause
use Rattle.fsoe_base.specs.declared.did.Dropped.{Dropped}
use Rattle.fsoe_base.specs.declared.did.Dropped.TheVariants as dropped
use Rattle.fsoe_base.specs.declared.did.Took.{Took}
use Rattle.param_load.specs.declared.profile.Profile.{Profile}
use Rattle.param_load.specs.declared.profile.Profile.TheVariants as profile

-- 1 for yes, 0 for no
abbrev pub flag : Bool → ℕ
flag true = 1
flag false = 0

-- the states in the order of a session
abbrev pub state_number : State → ℕ
state_number state.Reset = 0
state_number state.Session = 1
state_number state.Connection = 2
state_number state.Parameter = 3
state_number state.Data = 4

-- the byte of the command that was taken, 0 for none
abbrev pub took_number : Option Took → ℕ
took_number None = 0
took_number (Some took) = command_byte took.command

-- why an end went to state Reset, 0 where it didn't
abbrev pub reset_number : Option Cause → ℕ
reset_number None = 0
reset_number (Some reset_cause.Local) = 1
reset_number (Some (reset_cause.Peer code)) = 2
reset_number (Some (reset_cause.Found code)) = 3

-- the code of a reset, 0 where there is none
abbrev pub code_number : Option Cause → ℕ
code_number None = 0
code_number (Some reset_cause.Local) = 0
code_number (Some (reset_cause.Peer code)) = code.0
code_number (Some (reset_cause.Found code)) = code.0

-- why a frame was dropped, 0 where none was
abbrev pub dropped_number : Option Dropped → ℕ
dropped_number None = 0
dropped_number (Some dropped.Length) = 1
dropped_number (Some dropped.Repeat) = 2
dropped_number (Some dropped.InReset) = 3

-- the profiles by their numbers
abbrev pub profile_number : Profile → ℕ
profile_number profile.One = 1
profile_number (profile.Two word) = 2

-- the word of profile Two, 0 in profile One
abbrev pub word_number : Profile → ℕ
word_number profile.One = 0
word_number (profile.Two word) = word
