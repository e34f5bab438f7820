-- The payloads of a handshake and the terms of a connection, by looking back. Widths, order, pieces and padding are
-- this profile's own.
use Rattle.std.specs.Prelude.{ℕ, suc, ◌+◌, ◌-◌, ◌*◌, ◌/◌, nat_le, List, [], ◌∷◌, ◌++◌, length, take, drop, Bool, false, Option, Some, None, unwrap_or, if◌then◌else◌}
use Rattle.std.specs.Option.{option_or}
use Rattle.fsoe_base.specs.declared.command.State.{State}
use Rattle.fsoe_base.specs.declared.command.State.TheVariants as state
use Rattle.fsoe_base.specs.declared.command.Command.TheVariants as command
use Rattle.fsoe_base.specs.declared.did.Took.{Took}
use Rattle.fsoe_frame.specs.Parts.{frame_of}
use Rattle.param_load.specs.declared.entry.Move.{Move}
use Rattle.param_load.specs.declared.entry.Move.TheVariants as move
use Rattle.param_load.specs.declared.master_settings.MasterSettings.{MasterSettings}
use Rattle.param_load.specs.declared.slave_settings.SlaveSettings.{SlaveSettings}
use Rattle.param_load.specs.declared.profile.Profile.{Profile}
use Rattle.param_load.specs.declared.terms.Terms.{Terms}
use Rattle.param_load.specs.Payload.{session_payload, connection_payload, parameter_payload, piece_from, number_at}
use Rattle.param_load.specs.Profile.{id_len}
use Rattle.end_model.specs.Setup.{Setup, OfMaster, OfSlave, piece_len, first_nonce}
use Rattle.end_model.specs.Phases.{phase_of, phase_of_frame, same_phase, has_command}
use Rattle.end_model.specs.Deed.{Deed, of_session}
use Rattle.end_model.specs.Chain.{since, taken}

-- the nonce after an event
abbrev pub nonce_after : Move → ℕ → ℕ
nonce_after (move.Nonce id) before = id
nonce_after _ before = before

-- the nonce that was set last, else that of the settings; resets leave it
abbrev pub nonce : Setup → List Deed → ℕ
nonce s [] = first_nonce s
nonce s (x ∷ e) = nonce_after x.what (nonce s e)

-- the nonce before the session's first Session frame was sent, if one was
abbrev pub id_sent : Setup → List Deed → Option ℕ
id_sent s [] = None
id_sent s (x ∷ e) =
    if has_command command.Reset x.sent then None
    else if has_command command.Session x.sent then option_or (id_sent s e) (Some (nonce s e))
    else id_sent s e

-- the session id: the nonce before the session's first Session frame was sent, and the present nonce until then
abbrev pub session_id : Setup → List Deed → ℕ
session_id s e = unwrap_or (id_sent s e) (nonce s e)

-- what a master downloads in a phase
abbrev pub pay : MasterSettings → ℕ → State → List ℕ
pay ms id state.Session = session_payload id ms.profile
pay ms id state.Connection = connection_payload ms.conn ms.address
pay ms id state.Parameter = parameter_payload ms.watchdog ms.profile ms.app
pay ms id _ = []

-- the k-th piece of c bytes of a payload, from 1; the last may be shorter
abbrev pub piece : List ℕ → ℕ → ℕ → List ℕ
piece payload c k = piece_from payload ((k - 1) * c) c

-- the number of pieces of c bytes that n bytes make
abbrev pub pieces_for : ℕ → ℕ → ℕ
pieces_for n c = (n + c - 1) / c

-- the number of pieces of c bytes of a payload
abbrev pub pieces : List ℕ → ℕ → ℕ
pieces payload c = pieces_for (length payload) c

-- the number of frames of a phase
abbrev pub count_in : State → List (List ℕ) → ℕ
count_in phase [] = 0
count_in phase (f ∷ frames) = if same_phase phase (phase_of_frame f) then suc (count_in phase frames) else count_in phase frames

-- joined bytes, and the first c data bytes of a frame where it is of the phase
abbrev pub joined_with : State → ℕ → Option Took → List ℕ → List ℕ
joined_with phase c None before = before
joined_with phase c (Some t) before = if same_phase phase (phase_of t.command) then before ++ take c t.load else before

-- the first c data bytes of each frame of a phase that was taken, in order
abbrev pub joined : State → ℕ → List Deed → List ℕ
joined phase c [] = []
joined phase c (x ∷ e) = joined_with phase c (of_session x.did.took) (joined phase c e)

-- what a slave joined of a phase in this session
abbrev pub uploaded : SlaveSettings → State → List Deed → List ℕ
uploaded ss phase e = joined phase (piece_len (OfSlave ss)) (since e)

-- the number of bytes of the parameters, of which v are communication parameters: the number of application parameters
-- stands after these
abbrev pub parameter_len : ℕ → List ℕ → Option ℕ
parameter_len v u = if nat_le (v + 4) (length u) then Some (v + 4 + number_at (v + 2) u) else None

-- the number of bytes of a phase's payload, where its first bytes tell it
abbrev pub payload_len : Profile → State → List ℕ → Option ℕ
payload_len profile state.Session u = Some (id_len profile)
payload_len profile state.Connection u = Some 4
payload_len profile state.Parameter u = parameter_len (id_len profile) u
payload_len profile _ u = None

-- whether so many bytes are all of a payload
abbrev pub has_all : Option ℕ → ℕ → Bool
has_all None n = false
has_all (Some len) n = nat_le len n

-- whether the payload of a phase is whole
abbrev pub whole : Profile → State → List ℕ → Bool
whole profile phase u = has_all (payload_len profile phase u) (length u)

-- the connection id of a frame, if it is a Connection frame
abbrev pub conn_in : ℕ → List ℕ → Option ℕ
conn_in l f = if has_command command.Connection f then Some (frame_of l f).conn else None

-- the connection id of the first Connection frame
abbrev pub first_conn : ℕ → List (List ℕ) → Option ℕ
first_conn l [] = None
first_conn l (f ∷ frames) = option_or (first_conn l frames) (conn_in l f)

-- the connection id of a slave's session, if a Connection frame brought it
abbrev pub slave_conn : SlaveSettings → List Deed → Option ℕ
slave_conn ss e = first_conn ss.lengths.master (taken (since e))

-- the connection id of the session: a master's is set, a slave's came with the first Connection frame
abbrev pub conn_id : Setup → List Deed → ℕ
conn_id (OfMaster ms) e = ms.conn
conn_id (OfSlave ss) e = unwrap_or (slave_conn ss e) 0

-- the terms that the joined bytes of the phases Connection and Parameter say
abbrev pub terms_in : Profile → List ℕ → List ℕ → Terms
terms_in p connection parameter = record {
  conn = number_at 0 connection;
  address = number_at 2 connection;
  watchdog = number_at 2 parameter;
  app = take (number_at (id_len p + 2) parameter) (drop (id_len p + 4) parameter);
  profile = p;
}

-- what both ends rely on: a master's settings, and what a slave uploaded, with its own profile
abbrev pub terms : Setup → List Deed → Terms
terms (OfMaster ms) e = record { conn = ms.conn; address = ms.address; watchdog = ms.watchdog; app = ms.app; profile = ms.profile }
terms (OfSlave ss) e = terms_in ss.profile (uploaded ss state.Connection e) (uploaded ss state.Parameter e)
