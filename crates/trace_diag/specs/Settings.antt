-- The settings that are read off a trace. Those of a handshake come in the master's frames of the phases Connection and
-- Parameter, and the session id of each end in its own of the phase Session. What a trace doesn't reach is 0, but for
-- the high byte of the watchdog, which is 1, so that a watchdog of which less than both bytes are known isn't 0. What
-- is read off is this profile's own.
use Rattle.std.specs.Prelude.{ℕ, ◌+◌, ◌*◌, nat_lt, List, length, take, drop, slice_index, Option, Some, None, unwrap_or, if◌then◌else◌}
use Rattle.fsoe_base.specs.declared.command.End.{End}
use Rattle.fsoe_base.specs.declared.command.End.TheVariants as side
use Rattle.fsoe_base.specs.declared.command.State.TheVariants as state
use Rattle.fsoe_base.specs.declared.lengths.Lengths.{Lengths}
use Rattle.param_load.specs.declared.app_rule.AppRule.TheVariants as app_rule
use Rattle.param_load.specs.declared.master_settings.MasterSettings.{MasterSettings}
use Rattle.param_load.specs.declared.profile.Profile.TheVariants as profile
use Rattle.param_load.specs.declared.slave_settings.SlaveSettings.{SlaveSettings}
use Rattle.param_load.specs.MasterSettings.{IsMasterSetTo}
use Rattle.param_load.specs.Payload.{number_at, padded}
use Rattle.param_load.specs.SlaveSettings.{IsSlaveSetTo}
use Rattle.end_model.specs.Payloads.{first_conn}
use Rattle.trace_diag.specs.Trace.{Noted, frames_from, payload_from}
use Rattle.trace_diag.specs.declared.verdict.ReadOff.{ReadOff}

-- the byte at a place of a payload, or this one where the trace doesn't reach it
abbrev pub byte_or : ℕ → ℕ → List ℕ → ℕ
byte_or missing place bytes = if nat_lt place (length bytes) then slice_index bytes place else missing

-- the number in the two bytes from a place on, low byte first; this is its high byte where the trace doesn't reach that
abbrev pub word_or : ℕ → ℕ → List ℕ → ℕ
word_or missing place bytes = byte_or 0 place bytes + 256 * byte_or missing (place + 1) bytes

-- the payloads of the master's phases Connection and Parameter, as far as a trace reaches them
abbrev pub connection_from : Lengths → List Noted → List ℕ
connection_from lengths t = payload_from lengths side.Master state.Connection t

abbrev pub parameters_from : Lengths → List Noted → List ℕ
parameters_from lengths t = payload_from lengths side.Master state.Parameter t

-- the connection id is the field of the master's first Connection frame, and 1 where there is none
abbrev pub read_conn : Lengths → List Noted → ℕ
read_conn lengths t = unwrap_or (first_conn lengths.master (frames_from side.Master t)) 1

-- the address of the slave, in the two bytes after those of the connection id
abbrev pub read_address : Lengths → List Noted → ℕ
read_address lengths t = word_or 0 2 (connection_from lengths t)

-- the watchdog, in the two bytes after the length of the communication parameters
abbrev pub read_watchdog : Lengths → List Noted → ℕ
read_watchdog lengths t = word_or 1 2 (parameters_from lengths t)

-- the number of application parameters, in the two bytes after the watchdog
abbrev pub read_app_len : Lengths → List Noted → ℕ
read_app_len lengths t = word_or 0 4 (parameters_from lengths t)

-- the application parameters, after their number
abbrev pub read_app : Lengths → List Noted → List ℕ
read_app lengths t = padded (take (read_app_len lengths t) (drop 6 (parameters_from lengths t))) (read_app_len lengths t)

-- the session id of an end
abbrev pub read_id : Lengths → End → List Noted → ℕ
read_id lengths which t = word_or 0 0 (payload_from lengths which state.Session t)

-- settings of both ends in profile One, as they are read off a trace: the slave has the same address, accepts each
-- watchdog and any application parameters of their number, and its limit before a watchdog comes is the longest. There
-- are none where the connection id or the watchdog is 0, or the application parameters are more than settings may have
pub record AreReadOff (lengths : Lengths) (t : List Noted) (ms : MasterSettings) (ss : SlaveSettings) : Type 0 where
  pub master : IsMasterSetTo ms lengths (read_conn lengths t) (read_address lengths t) (read_watchdog lengths t) (read_app lengths t) (read_id lengths side.Master t) profile.One
  pub slave : IsSlaveSetTo ss lengths (read_address lengths t) 65535 65535 (app_rule.Any (read_app_len lengths t)) (read_id lengths side.Slave t) profile.One

-- the number in the two bytes from a place on, where the trace reaches both
abbrev pub word_if : ℕ → List ℕ → Option ℕ
word_if place bytes = if nat_lt (place + 1) (length bytes) then Some (number_at place bytes) else None

-- what is told by the payload of Connection and the parameters: each of these numbers where its last byte has come
abbrev pub settings_by : List ℕ → List ℕ → ReadOff
settings_by connection parameters = record {
  conn = word_if 0 connection;
  address = word_if 2 connection;
  watchdog = word_if 2 parameters;
  app = word_if 4 parameters;
}

-- what is told of the settings
abbrev pub settings_told : Lengths → List Noted → ReadOff
settings_told lengths t = settings_by (connection_from lengths t) (parameters_from lengths t)
