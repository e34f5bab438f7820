-- A frame of a handshake that passed the tests: what the machine does is what looking back gives.
use Rattle.slave_core.proofs.Common.{Chain, Code, Deed, InConnection, InParameter, InSession, IsRun, Notes, OfSlave, Outcome, SlaveSettings, State, UploadView, advanced, ap₃, begun, chain_after, conn_id, connection_taking, contents, deed_of, filled, has_command, id_len, id_piece, is_there, judged_contents, keeps, kit_of, nonce, notes_of, number_at, on_verdict, option_or, or_reset, outcome_by, padded, parameter_taking, parameters, piece_from, piece_len, piece_own, rule_len, session_of, session_payload, reply_in, session_taking, settles, since, slave-run, slave_conn, slave_limit, state_of, takes_frame, there, upload_of, view_in, whole, whole_parameters}
use Rattle.std.proofs.Common.{Bool, List, None, Option, Some, [], ap, ap₂, arith, drop, if◌then◌else◌, length, nat_le, refl, rules, sym, take, true, unwrap_or, ℕ, ◌*◌, ◌++◌, ◌+◌, ◌-◌, ◌<◌, ◌∙◌, ◌∷◌, ◌≡◌, ◌≤◌}
use Rattle.fsoe_base.specs.declared.command.Command.TheVariants as command
use Rattle.fsoe_base.specs.declared.command.State.TheVariants as state
use Rattle.param_load.specs.declared.contents.Expected.TheVariants as expected
use Rattle.param_load.specs.declared.entry.Move.TheVariants as move
use Rattle.slave_core.specs.declared.phase.Phase.TheVariants as phase
use Rattle.slave_core.proofs.Sound.{OfParameters, OfSession, Sound, SoundIn, count_of}
use Rattle.slave_core.proofs.SameVerdict.{came, seen}
use Rattle.slave_core.proofs.Agrees.{Agrees, fault-agrees, fresh_limit, same_slave}
use Rattle.slave_core.proofs.Arrived.{Arrived, chain_answered, connects-first, connects-none, count-next, frame_answered, id-piece, last-piece, piece-len, piece-peer}
use Rattle.param_load.specs.declared.app_rule.AppRule.{AppRule}
use Rattle.param_load.specs.Contents.{contents_fault}
use Rattle.end_model.proofs.Counted.{stays}

-- what is noted before a Session frame: the id that is sent is i, and nothing came of the later phases
pub record Opening (ss : SlaveSettings) (count : ℕ) (n : Notes) (nonce i : ℕ) : Type 0 where
  pub id_now : unwrap_or n.id nonce ≡ i
  pub id_next : option_or n.id (Some nonce) ≡ Some i
  pub no_conn : n.conn ≡ None
  pub count_is : length n.session ≡ count * piece_len (OfSlave ss)
  pub no_connection : n.connection ≡ []
  pub no_parameter : n.parameter ≡ []

pub opening-fresh : (ss : SlaveSettings) (count : ℕ) (n : Notes) (nonce : ℕ) → SoundIn state.Reset ss count n → Opening ss count n nonce nonce
opening-fresh ss count n nonce h = grind arith

pub opening-session : (ss : SlaveSettings) (count : ℕ) (n : Notes) (nonce : ℕ) → OfSession ss count n → Opening ss count n nonce (unwrap_or n.id 0)
opening-session ss count n nonce h = record {
  id_now = ap (λ (o : Option ℕ). unwrap_or o nonce) h.id_is;
  id_next = ap (λ (o : Option ℕ). option_or o (Some nonce)) h.id_is;
  no_conn = h.no_conn;
  count_is = h.count_is;
  no_connection = h.no_connection;
  no_parameter = h.no_parameter;
}

abbrev session_upload_at : SlaveSettings → List ℕ → UploadView
session_upload_at ss joined = upload_of ss (expected.Session ss.profile) joined

-- the state with this id of the slave, by what is noted
abbrev session_at : SlaveSettings → Notes → ℕ → InSession
session_at ss n i = record { session = session_of n; id = i; upload = session_upload_at ss n.session }

-- the machine at a Session frame whose contents fail, or not
abbrev pub session_settles : Option Code → State → SlaveSettings → List Deed → List ℕ → Notes → ℕ → Outcome
session_settles w p ss e bytes n i =
    settles (view_in p ss e) (seen ss bytes command.Session)
    (reply_in (kit_of ss e) (phase.Session (session_at ss n i)) (seen ss bytes command.Session))
    (or_reset (outcome_by w (advanced (session_upload_at ss n.session) (came ss bytes).load)) (phase.Session (session_taking (kit_of ss e) (session_at ss n i) (seen ss bytes command.Session))))

pub session-agrees : (w : Option Code) (p : State) (ss : SlaveSettings) (e : List Deed) (bytes : List ℕ) (i : ℕ) → state_of (OfSlave ss) e ≡ p → Sound ss e
    → Opening ss (count_of e) (notes_of ss e) (nonce (OfSlave ss) e) i → Arrived ss bytes command.Session
    → Agrees ss e (move.Deliver bytes) (on_verdict p (OfSlave ss) (judged_contents command.Session (came ss bytes).load w)) (session_settles w p ss e bytes (notes_of ss e) i)
session-agrees (Some x) p ss e bytes i at s o a = fault-agrees p ss e bytes true x at s
session-agrees None p ss e bytes i at s o a =
    let load : List ℕ = (came ss bytes).load in
    let before : List Deed = begun (move.Deliver bytes) (takes_frame command.Session load) ∷ e in
    let piece : List ℕ = id_piece ss before in
    let piece_is : piece ≡ piece_from (session_payload i ss.profile) (length (notes_of ss e).session) (piece_len (OfSlave ss)) =
    id-piece ss.profile (piece_len (OfSlave ss)) (notes_of ss e).id (nonce (OfSlave ss) e) i (count_of e) (length (notes_of ss e).session) _ a.phase_is o.id_now o.count_is in
    let full : length (padded piece ss.lengths.slave) ≡ ss.lengths.slave = filled _ (piece_len (OfSlave ss)) ss.lengths.slave (piece_own (OfSlave ss)) in
    let limit_is : slave_limit ss (notes_of ss e).parameter ≡ ss.hand = ap (slave_limit ss) o.no_parameter ∙ fresh_limit ss in
    record {
      view = λ r. same_slave _ _ _ _ _ _ _ _ refl
          (ap₃ (λ (c : Chain) (i : ℕ) (l : List ℕ). phase.Session (record { session = record { chain = c; last = l }; id = i; upload = session_upload_at ss ((notes_of ss e).session ++ take (piece_len (OfSlave ss)) load) }))
          (chain_after (OfSlave ss) (since e) bytes command.Session 0 command.Session (padded piece ss.lengths.slave) refl full ∙ ap (λ (piece : List ℕ). chain_answered (notes_of ss e).chain (seen ss bytes command.Session) 0 command.Session (padded piece ss.lengths.slave)) piece_is)
          (ap (λ (o : Option ℕ). unwrap_or o 0) o.id_next)
          (sym (a.back r)))
          limit_is refl;
      did = refl;
      sent = ap (λ (piece : List ℕ). frame_answered (notes_of ss e).chain (seen ss bytes command.Session) 0 command.Session (padded piece ss.lengths.slave)) piece_is;
      sound = search (rules, is_there, connects-none, count-next, take, piece-len, piece-peer);
    }

-- the connection id and the address that were joined are the session's and the slave's
said-both : (conn address : ℕ) (rule : AppRule) (u p rest : List ℕ) → (2 ≤ length u → number_at 0 u ≡ conn) → (4 ≤ length u → number_at 2 u ≡ address)
    → contents_fault (expected.Connection conn address) rule (length u) (u ++ p) rest ≡ None
    → (2 ≤ length (u ++ p) → number_at 0 (u ++ p) ≡ conn) × (4 ≤ length (u ++ p) → number_at 2 (u ++ p) ≡ address)
said-both conn address rule u p rest h k l = search (rules, stays)

abbrev connection_upload_at : SlaveSettings → ℕ → List ℕ → UploadView
connection_upload_at ss conn joined = upload_of ss (expected.Connection conn ss.address) joined

-- the state with this connection id, of whose upload these bytes were joined
abbrev connection_at : SlaveSettings → List Deed → ℕ → List ℕ → InConnection
connection_at ss e conn joined = record { session = session_of (notes_of ss e); conn = conn; upload = connection_upload_at ss conn joined }

-- the machine at a Connection frame whose contents fail, or not
abbrev pub connection_settles : Option Code → State → SlaveSettings → List Deed → List ℕ → ℕ → List ℕ → Outcome
connection_settles w p ss e bytes conn joined =
    settles (view_in p ss e) (seen ss bytes command.Connection)
    (reply_in (kit_of ss e) (phase.Connection (connection_at ss e conn joined)) (seen ss bytes command.Connection))
    (or_reset (outcome_by w (advanced (connection_upload_at ss conn joined) (came ss bytes).load)) (phase.Connection (connection_taking (kit_of ss e) (connection_at ss e conn joined) (seen ss bytes command.Connection))))

-- what is noted before a Connection frame with this connection id
pub record Joining (ss : SlaveSettings) (e : List Deed) (conn : ℕ) : Type 0 where
  pub conn_next : option_or (slave_conn ss e) (Some conn) ≡ Some conn
  pub conn_said : 2 ≤ length (notes_of ss e).connection → number_at 0 (notes_of ss e).connection ≡ conn
  pub address_said : 4 ≤ length (notes_of ss e).connection → number_at 2 (notes_of ss e).connection ≡ ss.address
  pub no_parameter : (notes_of ss e).parameter ≡ []

pub connection-agrees : (w : Option Code) (p : State) (ss : SlaveSettings) (e : List Deed) (bytes : List ℕ) → contents (OfSlave ss) e command.Connection (came ss bytes) ≡ w → state_of (OfSlave ss) e ≡ p → Sound ss e
    → Joining ss e (came ss bytes).conn → Arrived ss bytes command.Connection
    → Agrees ss e (move.Deliver bytes) (on_verdict p (OfSlave ss) (judged_contents command.Connection (came ss bytes).load w)) (connection_settles w p ss e bytes (came ss bytes).conn (notes_of ss e).connection)
connection-agrees (Some x) p ss e bytes tested at s j a = fault-agrees p ss e bytes true x at s
connection-agrees None p ss e bytes tested at s j a =
    let load : List ℕ = (came ss bytes).load in
    let conn : ℕ = (came ss bytes).conn in
    let c : ℕ = piece_len (OfSlave ss) in
    let before : List Deed = begun (move.Deliver bytes) (takes_frame command.Connection load) ∷ e in
    let long : length (take c load) ≡ c = piece-len load ss.lengths.master c a.load_len (piece-peer ss) in
    let echo : List ℕ = drop (length ((notes_of ss e).connection ++ take c load) - c) ((notes_of ss e).connection ++ take c load) in
    let echo_is : echo ≡ take c load = last-piece (notes_of ss e).connection (take c load) c long in
    let full : length (padded (take c load) ss.lengths.slave) ≡ ss.lengths.slave = filled load c ss.lengths.slave (piece_own (OfSlave ss)) in
    let next : slave_conn ss before ≡ Some conn = connects-first (slave_conn ss e) (has_command command.Connection bytes) conn a.connects j.conn_next in
    let conn_is : conn_id (OfSlave ss) before ≡ conn = there _ conn 0 next in
    let limit_is : slave_limit ss (notes_of ss e).parameter ≡ ss.hand = ap (slave_limit ss) j.no_parameter ∙ fresh_limit ss in
    let fields = said-both conn ss.address ss.rule (notes_of ss e).connection (take c load) (drop c load) j.conn_said j.address_said tested in
    record {
      view = λ r. same_slave _ _ _ _ _ _ _ _ refl
          (ap₃ (λ (k : Chain) (i : ℕ) (l : List ℕ). phase.Connection (record { session = record { chain = k; last = l }; conn = i; upload = connection_upload_at ss i ((notes_of ss e).connection ++ take c load) }))
          (chain_after (OfSlave ss) (since e) bytes command.Connection (conn_id (OfSlave ss) before) command.Connection (padded (take c load) ss.lengths.slave) refl full
          ∙ ap₂ (λ (k : ℕ) (piece : List ℕ). chain_answered (notes_of ss e).chain (seen ss bytes command.Connection) k command.Connection (padded piece ss.lengths.slave)) conn_is (sym echo_is))
          conn_is
          (sym (a.back r)))
          limit_is refl;
      did = refl;
      sent = ap₂ (λ (k : ℕ) (piece : List ℕ). frame_answered (notes_of ss e).chain (seen ss bytes command.Connection) k command.Connection (padded piece ss.lengths.slave)) conn_is (sym echo_is);
      sound = search (rules, is_there);
    }

pub some-limit : (ss : SlaveSettings) (e : List Deed) → IsRun (OfSlave ss) e → 0 < slave_limit ss (parameters ss e)
some-limit ss e h = search (rules, slave-run)

abbrev parameter_upload_at : SlaveSettings → List ℕ → UploadView
parameter_upload_at ss joined = upload_of ss (expected.Parameter ss.most (rule_len ss.rule) ss.profile) joined

-- the state of whose upload these bytes were joined
abbrev pub parameter_at : SlaveSettings → List Deed → List ℕ → InParameter
parameter_at ss e joined = record { session = session_of (notes_of ss e); conn = unwrap_or (notes_of ss e).conn 0; upload = parameter_upload_at ss joined }

-- the machine at a Parameter frame whose contents fail, or not
abbrev pub parameter_settles : Option Code → State → SlaveSettings → List Deed → List ℕ → List ℕ → Outcome
parameter_settles w p ss e bytes joined =
    settles (view_in p ss e) (seen ss bytes command.Parameter)
    (reply_in (kit_of ss e) (phase.Parameter (parameter_at ss e joined)) (seen ss bytes command.Parameter))
    (or_reset (outcome_by w (advanced (parameter_upload_at ss joined) (came ss bytes).load)) (phase.Parameter (parameter_taking (kit_of ss e) (parameter_at ss e joined) (seen ss bytes command.Parameter))))

pub parameter-agrees : (w : Option Code) (p : State) (ss : SlaveSettings) (e : List Deed) (bytes : List ℕ) → state_of (OfSlave ss) e ≡ p → Sound ss e → OfParameters ss (notes_of ss e) → Arrived ss bytes command.Parameter
    → IsRun (OfSlave ss) (deed_of (OfSlave ss) e (move.Deliver bytes) (on_verdict p (OfSlave ss) (judged_contents command.Parameter (came ss bytes).load w)) ∷ e)
    → Agrees ss e (move.Deliver bytes) (on_verdict p (OfSlave ss) (judged_contents command.Parameter (came ss bytes).load w)) (parameter_settles w p ss e bytes (notes_of ss e).parameter)
parameter-agrees (Some x) p ss e bytes at s j a run = fault-agrees p ss e bytes true x at s
parameter-agrees None p ss e bytes at s j a run =
    let load : List ℕ = (came ss bytes).load in
    let conn : ℕ = unwrap_or (slave_conn ss e) 0 in
    let c : ℕ = piece_len (OfSlave ss) in
    let u : List ℕ = (notes_of ss e).parameter ++ take c load in
    let before : List Deed = begun (move.Deliver bytes) (takes_frame command.Parameter load) ∷ e in
    let after : List Deed = deed_of (OfSlave ss) e (move.Deliver bytes) (takes_frame command.Parameter load) ∷ e in
    let echo_is : drop (length u - c) u ≡ take c load = last-piece (notes_of ss e).parameter (take c load) c (piece-len load ss.lengths.master c a.load_len (piece-peer ss)) in
    let full : length (padded (take c load) ss.lengths.slave) ≡ ss.lengths.slave = filled load c ss.lengths.slave (piece_own (OfSlave ss)) in
    let next : slave_conn ss before ≡ Some conn = keeps (slave_conn ss e) _ conn j.conn_is in
    let conn_is : conn_id (OfSlave ss) before ≡ conn = there _ conn 0 next in
    let is_whole : whole ss.profile state.Parameter u ≡ nat_le (id_len ss.profile + 4 + rule_len ss.rule) (length u) = whole_parameters ss after run in
    let young : 0 < slave_limit ss u = some-limit ss after run in
    record {
      view = λ r. same_slave _ _ _ _ _ _ _ _ refl
          (ap₃ (λ (k : Chain) (i : ℕ) (l : List ℕ). phase.Parameter (record { session = record { chain = k; last = l }; conn = i; upload = parameter_upload_at ss u }))
          (chain_after (OfSlave ss) (since e) bytes command.Parameter (conn_id (OfSlave ss) before) command.Parameter (padded (take c load) ss.lengths.slave) refl full
          ∙ ap₂ (λ (k : ℕ) (piece : List ℕ). chain_answered (notes_of ss e).chain (seen ss bytes command.Parameter) k command.Parameter (padded piece ss.lengths.slave)) conn_is (sym echo_is))
          conn_is
          (sym (a.back r)))
          (ap (λ (b : Bool). if b then number_at 2 u else ss.hand) is_whole) refl;
      did = refl;
      sent = ap₂ (λ (k : ℕ) (piece : List ℕ). frame_answered (notes_of ss e).chain (seen ss bytes command.Parameter) k command.Parameter (padded piece ss.lengths.slave)) conn_is (sym echo_is);
      sound = search (rules, is_there);
    }
