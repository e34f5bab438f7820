-- By which numbers the calls of a controller answer.
use Rattle.std.specs.Prelude.{ℕ, Bool, false, ◌&&◌, nat_le, length, if◌then◌else◌}
use Rattle.std.specs.Option.{option_map_or}
use Rattle.c_values.specs.declared.numbers.TheConstants.{OK}
use Rattle.failsafe_io.specs.declared.bit.Bit.{Bit}
use Rattle.failsafe_io.specs.Bits.{has_bit}
use Rattle.param_load.specs.declared.master_settings.MasterSettings.{MasterSettings}
use Rattle.multi_master.specs.Standing.{links, settings_at}
use Rattle.controller_c.specs.ControllerView.{ControllerView, input_lens, output_lens}
use Rattle.controller_c.specs.declared.numbers.TheConstants.{NOT_RUNNING, NO_BLOCK, NO_CONNECTION, NO_INPUT, NO_OUTPUT}

-- whether one of so many has this number: they are numbered from 1
abbrev pub has_number : ℕ → ℕ → Bool
has_number count number = nat_le 1 number && nat_le number count

-- the answer of a call that wants a controller that runs
abbrev pub if_running : ControllerView → ℕ → ℕ
if_running old answer = if old.running then answer else NOT_RUNNING

-- the answer of a call of one connection
abbrev pub if_connected : ControllerView → ℕ → ℕ → ℕ
if_connected old connection answer = if has_number (links old.multi) connection then answer else NO_CONNECTION

-- the answer of a call of one connection of a controller that runs
abbrev pub if_stepping : ControllerView → ℕ → ℕ → ℕ
if_stepping old connection answer = if_running old (if_connected old connection answer)

-- the answer of a call about a block of the net that runs
abbrev pub if_block : ControllerView → ℕ → ℕ → ℕ
if_block old block answer = if has_number (length old.multi.app.blocks) block then answer else NO_BLOCK

-- the answer of a call about an output bit and an input bit
abbrev pub if_bits : ControllerView → (output input : Bit) → ℕ → ℕ
if_bits old output input answer = if has_bit (output_lens old) output then (if has_bit (input_lens old) input then answer else NO_INPUT) else NO_OUTPUT

-- the answer of a call that wants this of its connection's settings, else why it refuses
abbrev pub if_set : ControllerView → ℕ → (MasterSettings → Bool) → ℕ → ℕ
if_set old connection test why = if option_map_or test (settings_at old.multi connection) false then OK else why
