-- The codes of Reset frames: why one is sent. They are those of the public standard.
use Rattle.fsoe_base.specs.declared.command.Code.{Code}
use Rattle.fsoe_base.specs.Command.{code}

-- a local reset, or the answer to a reset
abbrev pub local_reset : Code
local_reset = code 0x00

-- a command that isn't allowed in the state
abbrev pub command_not_allowed : Code
command_not_allowed = code 0x01

abbrev pub unknown_command : Code
unknown_command = code 0x02

abbrev pub wrong_connection : Code
wrong_connection = code 0x03

abbrev pub wrong_crc : Code
wrong_crc = code 0x04

abbrev pub watchdog_expired : Code
watchdog_expired = code 0x05

-- another slave address
abbrev pub wrong_address : Code
wrong_address = code 0x06

-- wrong safe data
abbrev pub wrong_data : Code
wrong_data = code 0x07

-- another length of the communication parameters
abbrev pub wrong_communication_length : Code
wrong_communication_length = code 0x08

abbrev pub wrong_communication : Code
wrong_communication = code 0x09

-- another length of the application parameters
abbrev pub wrong_application_length : Code
wrong_application_length = code 0x0A

abbrev pub wrong_application : Code
wrong_application = code 0x0B
