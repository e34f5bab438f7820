-- Where a handshake stands: the pieces of each payload that were sent and taken so far, and whose turn it is.
use Rattle.exchange_model.proofs.Common.{Command, Deed, MasterSettings, OfMaster, OfSlave, Profile, Setup, SlaveSettings, State, allows_id, connection_payload, count_in, exchanges, first_conn, id_len, id_sent, joined, own, parameter_payload, pay, phase_of, phase_sent, phase_taken, piece_len, pieces, pieces_for, same_phase, session_payload, since, taken}
use Rattle.std.proofs.Common.{◌≡◌, ℕ, zero, suc, ◌+◌, ◌<◌, ◌≤◌, List, length, false, nat_lt, Option, Some, None, IsTrue, if◌then◌else◌, arith, nat_le, refl, sym, subst}
use Rattle.fsoe_base.specs.declared.command.State.TheVariants as state
use Rattle.fsoe_base.specs.declared.command.Command.TheVariants as command
use Rattle.schedule_file.proofs.OneSetting.{same_slave}
use Rattle.exchange_model.proofs.Alone.Pieces.{front}

-- a slave whose settings match a master's has an id of its own that the master's profile allows
pub record Partner (ms : MasterSettings) : Type 0 where
  pub slave : SlaveSettings
  pub allowed : IsTrue (allows_id ms.profile slave.nonce)

-- the settings of that slave: its lengths, its address and its profile are the master's
abbrev pub partner : (ms : MasterSettings) → Partner ms → SlaveSettings
partner ms r = record r.slave { lengths = ms.lengths; address = ms.address; profile = ms.profile; allowed = r.allowed }

-- settings with these lengths, this address and this profile are those of a partner
pub as_partner : (ms : MasterSettings) (ss : SlaveSettings) → ms.lengths ≡ ss.lengths → ms.address ≡ ss.address → ms.profile ≡ ss.profile → (r : Partner ms) × (partner ms r ≡ ss)
as_partner ms ss lengths address profile =
    let r : Partner ms = record { slave = ss; allowed = subst (λ (profile : Profile). IsTrue (allows_id profile ss.nonce)) (sym profile) ss.allowed } in
    (r, same_slave (partner ms r) ss lengths address refl refl refl refl profile)

abbrev pub master_of : MasterSettings → Setup
master_of ms = OfMaster ms

abbrev pub slave_of : (ms : MasterSettings) → Partner ms → Setup
slave_of ms r = OfSlave (partner ms r)

-- the bytes of a piece, and the pieces of each payload
abbrev pub width : MasterSettings → ℕ
width ms = piece_len (OfMaster ms)

abbrev pub session_pieces : MasterSettings → ℕ
session_pieces ms = pieces_for (id_len ms.profile) (width ms)

abbrev pub connection_pieces : MasterSettings → ℕ
connection_pieces ms = pieces_for 4 (width ms)

abbrev pub parameter_pieces : MasterSettings → ℕ
parameter_pieces ms = pieces_for (id_len ms.profile + 4 + length ms.app) (width ms)

-- one more where a frame with this command is of the phase
abbrev pub more : State → Command → ℕ → ℕ
more phase c k = if same_phase phase (phase_of c) then suc k else k

-- the command of the k-th frame of the master, from 0, where of the three payloads, of n, n' and n'' pieces, a, b and d
-- were sent before
pub data Turn (n n' n'' : ℕ) : Command → State → ℕ → ℕ → ℕ → ℕ → Type 0 where
  Starts : Turn n n' n'' command.Session state.Reset 0 0 0 0
  MoreSession : (a : ℕ) → a < n → Turn n n' n'' command.Session state.Session a 0 0 a
  FirstConnection : Turn n n' n'' command.Connection state.Session n 0 0 n
  MoreConnection : (b k : ℕ) → b < n' → k ≡ n + b → Turn n n' n'' command.Connection state.Connection n b 0 k
  FirstParameter : (k : ℕ) → k ≡ n + n' → Turn n n' n'' command.Parameter state.Connection n n' 0 k
  MoreParameter : (d k : ℕ) → d < n'' → k ≡ n + n' + d → Turn n n' n'' command.Parameter state.Parameter n n' d k
  FirstZeros : (k : ℕ) → k ≡ n + n' + n'' → Turn n n' n'' command.FailSafeData state.Parameter n n' n'' k
  FirstValues : (k : ℕ) → k ≡ n + n' + n'' → Turn n n' n'' command.ProcessData state.Parameter n n' n'' k
  MoreZeros : (k : ℕ) → n + n' + n'' < k → Turn n n' n'' command.FailSafeData state.Data n n' n'' k
  MoreValues : (k : ℕ) → n + n' + n'' < k → Turn n n' n'' command.ProcessData state.Data n n' n'' k

-- where the master's m-th frame leaves a handshake
pub data Spot (n n' n'' : ℕ) : State → ℕ → ℕ → ℕ → ℕ → Type 0 where
  InSession : (a : ℕ) → a ≤ n → Spot n n' n'' state.Session a 0 0 a
  InConnection : (b m : ℕ) → b ≤ n' → m ≡ n + b → Spot n n' n'' state.Connection n b 0 m
  InParameter : (d m : ℕ) → d ≤ n'' → m ≡ n + n' + d → Spot n n' n'' state.Parameter n n' d m
  InData : (m : ℕ) → n + n' + n'' < m → Spot n n' n'' state.Data n n' n'' m

-- after the frame in turn
pub spot_after : (n n' n'' : ℕ) (c : Command) (p : State) (a b d k : ℕ) → 0 < n → 0 < n' → 0 < n'' → Turn n n' n'' c p a b d k
    → Spot n n' n'' (phase_of c) (more state.Session c a) (more state.Connection c b) (more state.Parameter c d) (suc k)
spot_after n n' n'' c p a b d k i i' i'' Starts = InSession 1 (omega arith)
spot_after n n' n'' c p a b d k i i' i'' (MoreSession _ h) = InSession (suc a) (omega arith)
spot_after n n' n'' c p a b d k i i' i'' FirstConnection = InConnection 1 (suc n) (omega arith) (omega arith)
spot_after n n' n'' c p a b d k i i' i'' (MoreConnection _ _ h e) = InConnection (suc b) (suc k) (omega arith) (omega arith)
spot_after n n' n'' c p a b d k i i' i'' (FirstParameter _ e) = InParameter 1 (suc k) (omega arith) (omega arith)
spot_after n n' n'' c p a b d k i i' i'' (MoreParameter _ _ h e) = InParameter (suc d) (suc k) (omega arith) (omega arith)
spot_after n n' n'' c p a b d k i i' i'' (FirstZeros _ e) = InData (suc k) (omega arith)
spot_after n n' n'' c p a b d k i i' i'' (FirstValues _ e) = InData (suc k) (omega arith)
spot_after n n' n'' c p a b d k i i' i'' (MoreZeros _ e) = InData (suc k) (omega arith)
spot_after n n' n'' c p a b d k i i' i'' (MoreValues _ e) = InData (suc k) (omega arith)

-- an end is in Data exactly after the last piece
pub spot_data : (n n' n'' : ℕ) (p : State) (a b d m : ℕ) → Spot n n' n'' p a b d m → same_phase state.Data p ≡ nat_lt (n + n' + n'') m
spot_data n n' n'' p a b d m h = grind arith

pub turn_data : (n n' n'' : ℕ) (c : Command) (p : State) (a b d k : ℕ) → Turn n n' n'' c p a b d k → same_phase state.Data p ≡ nat_lt (n + n' + n'') k
turn_data n n' n'' c p a b d k h = grind arith

-- the numbers of deliveries that bring an end into Data
pub at_least : (a b c m : ℕ) → nat_lt (a + b + c) m ≡ nat_le (1 + a + b + c) m
at_least a b c m = grind arith

pub none_yet : (a b c : ℕ) → nat_le (1 + a + b + c) 0 ≡ false
none_yet a b c = grind arith

-- the connection id that came with b pieces of its payload, if some came
abbrev pub conn_after : ℕ → ℕ → Option ℕ
conn_after conn zero = None
conn_after conn (suc b) = Some conn

-- a slave in this phase, which joined these bytes from these frames, took so many pieces in its session
pub record HasTaken (ms : MasterSettings) (id : ℕ) (now : State) (uploads : State → List ℕ) (frames : List (List ℕ)) (p : State) (a b d : ℕ) : Type 0 where
  pub phase : now ≡ p
  pub session : uploads state.Session ≡ front (session_payload id ms.profile) (width ms) a
  pub connection : uploads state.Connection ≡ front (connection_payload ms.conn ms.address) (width ms) b
  pub parameters : uploads state.Parameter ≡ front (parameter_payload ms.watchdog ms.profile ms.app) (width ms) d
  pub ids : count_in state.Session frames ≡ a
  pub conn : first_conn ms.lengths.master frames ≡ conn_after ms.conn b

abbrev pub SlaveAt : MasterSettings → ℕ → List Deed → State → ℕ → ℕ → ℕ → Type 0
SlaveAt ms id v p a b d = HasTaken ms id (phase_taken v) (λ phase. joined phase (width ms) v) (taken v) p a b d

-- a master that sent these frames and this session id sent so many pieces in its session
pub record HasSent (id : ℕ) (frames : List (List ℕ)) (id_known : Option ℕ) (p : State) (a b d : ℕ) : Type 0 where
  pub phase : phase_sent frames ≡ p
  pub session : count_in state.Session frames ≡ a
  pub connection : count_in state.Connection frames ≡ b
  pub parameters : count_in state.Parameter frames ≡ d
  pub id_is : id_known ≡ Some id

abbrev pub MasterAt : MasterSettings → ℕ → List Deed → State → ℕ → ℕ → ℕ → Type 0
MasterAt ms id e p a b d = HasSent id (own (since e)) (id_sent (OfMaster ms) e) p a b d

-- how long the payloads are
pub session_long : (id : ℕ) (p : Profile) → length (session_payload id p) ≡ id_len p
session_long id p = grind arith

pub parameters_long : (w : ℕ) (p : Profile) (app : List ℕ) → length (parameter_payload w p app) ≡ id_len p + 4 + length app
parameters_long w p app = grind arith

-- the exchanges before the first data are one of Reset frames and one for each piece
pub are_pieces : (ms : MasterSettings) (id : ℕ)
    → exchanges ms ≡ 1 + pieces (pay ms id state.Session) (piece_len (OfMaster ms)) + pieces (pay ms id state.Connection) (piece_len (OfMaster ms)) + pieces (pay ms id state.Parameter) (piece_len (OfMaster ms))
are_pieces ms id = simp (session_long id ms.profile, parameters_long ms.watchdog ms.profile ms.app) refl
