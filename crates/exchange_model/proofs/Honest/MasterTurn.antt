-- A master takes the answer that is on its way, and sends the next frame.
use Rattle.exchange_model.proofs.Common.{Command, Deed, Frame, IsValid, MasterSettings, OfMaster, State, after_phase, answer, command_of, connection_payload, contents, count_in, download_frame, has_conn, held, id_sent, is_echo, is_reset, length-replicate, ltb-false, ltb-true, master_allows, nonce, offer, option_or, own, padded, padded_len, parameter_payload, phase_of, piece, pieces, pieces_for, received, seal, sealed_next, session_id, session_payload, since, with_data}
use Rattle.std.proofs.Common.{◌≡◌, ℕ, suc, ◌+◌, ◌<◌, ◌≤◌, nat_lt, List, [], ◌∷◌, length, replicate, Bool, true, false, Some, None, if◌then◌else◌, refl, sym, ap, ap₂, subst, ◌∙◌, arith, unwrap_or, rules}
use Rattle.fsoe_base.specs.declared.command.State.TheVariants as state
use Rattle.fsoe_base.specs.declared.command.Command.TheVariants as command
use Rattle.exchange_model.proofs.Alone.Pieces.{piece_filled}
use Rattle.exchange_model.proofs.Alone.Framed.{command_back}
use Rattle.exchange_model.proofs.Honest.OnItsWay.{OnItsWay, fits_on, answering}
use Rattle.exchange_model.proofs.Honest.ResetFrames.{zeros_all}
use Rattle.exchange_model.proofs.Honest.SlaveTurn.{Replies, Carries, parts_with}
use Rattle.exchange_model.proofs.Honest.Turns.{session_long, parameters_long, Partner, master_of, slave_of, width, session_pieces, connection_pieces, parameter_pieces, more, Turn, MoreSession, FirstConnection, MoreConnection, FirstParameter, MoreParameter, FirstZeros, FirstValues, MoreZeros, MoreValues, Spot, InSession, InConnection, InParameter, InData, MasterAt}

conn-right : (ms : MasterSettings) (id : ℕ) (e : List Deed) (c : Command) (a b d conn : ℕ) (load : List ℕ) → Replies ms id c a b d conn load → has_conn (OfMaster ms) e c conn ≡ true
conn-right ms id e c a b d conn load h = grind arith

pub id_of : (ms : MasterSettings) (id : ℕ) (e : List Deed) → id_sent (OfMaster ms) e ≡ Some id → session_id (OfMaster ms) e ≡ id
id_of ms id e h = ap (λ o. unwrap_or o (nonce (OfMaster ms) e)) h

echoes : (q load : List ℕ) (l : ℕ) → length q ≤ l → load ≡ padded q l → is_echo q load ≡ true
echoes q load l h k = search (rules, padded_len)

contents-right : (ms : MasterSettings) (r : Partner ms) (id : ℕ) (e : List Deed) (c : Command) (p : State) (a b d conn : ℕ) (load crcs : List ℕ) → MasterAt ms id e p a b d → Replies ms id c a b d conn load
    → contents (OfMaster ms) e c (parts_with conn c load crcs) ≡ None
contents-right ms r id e c p a b d conn load crcs h k = search (rules, echoes)

-- the answer passes all tests of the master
pub master_valid : (ms : MasterSettings) (r : Partner ms) (id : ℕ) (u e : List Deed) (c : Command) (p : State) (a b d conn : ℕ) (load g : List ℕ) → is_reset c ≡ false → phase_of c ≡ p
    → OnItsWay (slave_of ms r) (master_of ms) u (since e) conn c load g → MasterAt ms id e p a b d → Replies ms id c a b d conn load → IsValid (master_of ms) e g c load
master_valid ms r id u e c p a b d conn load g n same o h k =
    record {
      is_read = record { has_length = o.long; is_new = o.is_new; command_is = ap (λ (g : Frame). command_of g.cmd) o.frame ∙ command_back c };
      load_is = ap (λ (g : Frame). g.load) o.frame;
      is_allowed = ap (λ (p : State). master_allows p c) (h.phase ∙ sym same) ∙ grind arith;
      has_conn_id = ap (λ (g : Frame). has_conn (master_of ms) e c g.conn) o.frame ∙ conn-right ms id e c a b d conn load k;
      does_fit = fits_on (slave_of ms r) (master_of ms) u (since e) conn c load g refl o;
      is_sound = ap (contents (master_of ms) e c) o.frame ∙ contents-right ms r id e c p a b d conn load _ h k;
    }

-- the next frame of a master
pub record Next (ms : MasterSettings) (id : ℕ) (e : List Deed) (g : List ℕ) (c : Command) (load next : List ℕ) (p : State) (a b d m : ℕ) : Type 0 where
  pub conn : ℕ
  pub command : Command
  pub made : List ℕ
  pub in_session : is_reset command ≡ false
  pub turn : Turn (session_pieces ms) (connection_pieces ms) (parameter_pieces ms) command p a b d m
  pub long : length made ≡ ms.lengths.master
  pub is : next ≡ seal (master_of ms) (answering g c load [] ∷ since e) conn command made
  pub carries : Carries ms id command a b d conn made

session-count : (ms : MasterSettings) (id : ℕ) → pieces (session_payload id ms.profile) (width ms) ≡ session_pieces ms
session-count ms id = ap (λ n. pieces_for n (width ms)) (session_long id ms.profile)

parameter-count : (ms : MasterSettings) → pieces (parameter_payload ms.watchdog ms.profile ms.app) (width ms) ≡ parameter_pieces ms
parameter-count ms = ap (λ n. pieces_for n (width ms)) (parameters_long ms.watchdog ms.profile ms.app)

-- a frame with a piece of a payload
piece-next : (ms : MasterSettings) (id : ℕ) (e : List Deed) (g load : List ℕ) (c c' : Command) (p : State) (a b d m conn : ℕ) (payload : List ℕ) (k : ℕ) → is_reset c' ≡ false → Turn (session_pieces ms) (connection_pieces ms) (parameter_pieces ms) c' p a b d m
    → Carries ms id c' a b d conn (padded (piece payload (width ms) k) ms.lengths.master)
    → Next ms id e g c load (seal (master_of ms) (answering g c load [] ∷ since e) conn c' (padded (piece payload (width ms) k) ms.lengths.master)) p a b d m
piece-next ms id e g load c c' p a b d m conn payload k n turn carries =
    record { conn = conn; command = c'; made = _; in_session = n; turn = turn; long = piece_filled (OfMaster ms) payload k; is = refl; carries = carries }

-- the first data frame, or a further one
data-next : (ms : MasterSettings) (id : ℕ) (e : List Deed) (g : List ℕ) (c : Command) (load : List ℕ) (p : State) (a b d m : ℕ) (hold : Bool) → length (offer (OfMaster ms) e) ≡ ms.lengths.master
    → Turn (session_pieces ms) (connection_pieces ms) (parameter_pieces ms) command.FailSafeData p a b d m → Turn (session_pieces ms) (connection_pieces ms) (parameter_pieces ms) command.ProcessData p a b d m
    → held e ≡ hold → Next ms id e g c load (with_data (OfMaster ms) (received g c load e)) p a b d m
data-next ms id e g c load p a b d m true long t t' h =
    record {
      conn = ms.conn;
      command = command.FailSafeData;
      made = replicate ms.lengths.master 0;
      in_session = refl;
      turn = t;
      long = length-replicate ms.lengths.master 0;
      is = ap (λ (b : Bool). if b then sealed_next (OfMaster ms) (received g c load e) command.FailSafeData (replicate ms.lengths.master 0) else sealed_next (OfMaster ms) (received g c load e) command.ProcessData (offer (OfMaster ms) e)) h;
      carries = (refl, zeros_all ms.lengths.master);
    }
data-next ms id e g c load p a b d m false long t t' h =
    search rules

below : (k n k' n' : ℕ) → k ≡ k' → n ≡ n' → nat_lt k n ≡ true → k' < n'
below k n k' n' e f h = let i : k < n = ltb-true k n h in omega arith

reached : (k n k' n' : ℕ) → k ≡ k' → n ≡ n' → nat_lt k n ≡ false → k' ≤ n' → k' ≡ n'
reached k n k' n' e f h g = let i : n ≤ k = ltb-false k n h in omega arith

session-next : (ms : MasterSettings) (id : ℕ) (e : List Deed) (g load : List ℕ) (a : ℕ) (more : Bool) → MasterAt ms id e state.Session a 0 0 → a ≤ session_pieces ms
    → nat_lt (count_in state.Session (own (since e))) (pieces (session_payload (session_id (OfMaster ms) e) ms.profile) (width ms)) ≡ more
    → Next ms id e g command.Session load (if more then download_frame ms (received g command.Session load e) command.Session (suc (count_in state.Session (own (since e)))) else after_phase ms (received g command.Session load e) command.Session) state.Session a 0 0 a
session-next ms id e g load a true h most k =
    piece-next ms id e g load command.Session command.Session state.Session a 0 0 a 0 (session_payload (session_id (OfMaster ms) e) ms.profile) (suc (count_in state.Session (own (since e)))) refl
    (MoreSession a (below _ _ a (session_pieces ms) h.session (session-count ms (session_id (OfMaster ms) e)) k))
    (refl, ap₂ (λ (i n : ℕ). padded (piece (session_payload i ms.profile) (width ms) (suc n)) ms.lengths.master) (id_of ms id e h.id_is) h.session)
session-next ms id e g load a false h most k =
    let all : a ≡ session_pieces ms = reached _ _ a (session_pieces ms) h.session (session-count ms (session_id (OfMaster ms) e)) k most in
    piece-next ms id e g load command.Session command.Connection state.Session a 0 0 a ms.conn (connection_payload ms.conn ms.address) 1 refl
    (subst (λ (a : ℕ). Turn (session_pieces ms) (connection_pieces ms) (parameter_pieces ms) command.Connection state.Session a 0 0 a) (sym all) FirstConnection) (refl, refl)

connection-next : (ms : MasterSettings) (id : ℕ) (e : List Deed) (g load : List ℕ) (b m : ℕ) (more : Bool) → MasterAt ms id e state.Connection (session_pieces ms) b 0 → b ≤ connection_pieces ms → m ≡ session_pieces ms + b
    → nat_lt (count_in state.Connection (own (since e))) (connection_pieces ms) ≡ more
    → Next ms id e g command.Connection load (if more then download_frame ms (received g command.Connection load e) command.Connection (suc (count_in state.Connection (own (since e)))) else after_phase ms (received g command.Connection load e) command.Connection) state.Connection (session_pieces ms) b 0 m
connection-next ms id e g load b m true h most at k =
    piece-next ms id e g load command.Connection command.Connection state.Connection (session_pieces ms) b 0 m ms.conn (connection_payload ms.conn ms.address) (suc (count_in state.Connection (own (since e)))) refl
    (MoreConnection b m (below _ _ b (connection_pieces ms) h.connection refl k) at)
    (refl, ap (λ n. padded (piece (connection_payload ms.conn ms.address) (width ms) (suc n)) ms.lengths.master) h.connection)
connection-next ms id e g load b m false h most at k =
    let all : b ≡ connection_pieces ms = reached _ _ b (connection_pieces ms) h.connection refl k most in
    piece-next ms id e g load command.Connection command.Parameter state.Connection (session_pieces ms) b 0 m ms.conn (parameter_payload ms.watchdog ms.profile ms.app) 1 refl
    (subst (λ (b : ℕ). Turn (session_pieces ms) (connection_pieces ms) (parameter_pieces ms) command.Parameter state.Connection (session_pieces ms) b 0 m) (sym all) (FirstParameter m (at ∙ ap (λ n. session_pieces ms + n) all))) (refl, refl)

parameter-next : (ms : MasterSettings) (id : ℕ) (e : List Deed) (g load : List ℕ) (d m : ℕ) (more : Bool) → length (offer (OfMaster ms) e) ≡ ms.lengths.master → MasterAt ms id e state.Parameter (session_pieces ms) (connection_pieces ms) d
    → d ≤ parameter_pieces ms → m ≡ session_pieces ms + connection_pieces ms + d → nat_lt (count_in state.Parameter (own (since e))) (pieces (parameter_payload ms.watchdog ms.profile ms.app) (width ms)) ≡ more
    → Next ms id e g command.Parameter load (if more then download_frame ms (received g command.Parameter load e) command.Parameter (suc (count_in state.Parameter (own (since e)))) else after_phase ms (received g command.Parameter load e) command.Parameter) state.Parameter (session_pieces ms) (connection_pieces ms) d m
parameter-next ms id e g load d m true long h most at k =
    piece-next ms id e g load command.Parameter command.Parameter state.Parameter (session_pieces ms) (connection_pieces ms) d m ms.conn (parameter_payload ms.watchdog ms.profile ms.app) (suc (count_in state.Parameter (own (since e)))) refl
    (MoreParameter d m (below _ _ d (parameter_pieces ms) h.parameters (parameter-count ms) k) at)
    (refl, ap (λ n. padded (piece (parameter_payload ms.watchdog ms.profile ms.app) (width ms) (suc n)) ms.lengths.master) h.parameters)
parameter-next ms id e g load d m false long h most at k =
    let all : d ≡ parameter_pieces ms = reached _ _ d (parameter_pieces ms) h.parameters (parameter-count ms) k most in
    let whole : m ≡ session_pieces ms + connection_pieces ms + parameter_pieces ms = at ∙ ap (λ n. session_pieces ms + connection_pieces ms + n) all in
    data-next ms id e g command.Parameter load state.Parameter (session_pieces ms) (connection_pieces ms) d m (held e) long
    (subst (λ (d : ℕ). Turn (session_pieces ms) (connection_pieces ms) (parameter_pieces ms) command.FailSafeData state.Parameter (session_pieces ms) (connection_pieces ms) d m) (sym all) (FirstZeros m whole))
    (subst (λ (d : ℕ). Turn (session_pieces ms) (connection_pieces ms) (parameter_pieces ms) command.ProcessData state.Parameter (session_pieces ms) (connection_pieces ms) d m) (sym all) (FirstValues m whole)) refl

-- the frame that follows an answer
pub next : (ms : MasterSettings) (id : ℕ) (e : List Deed) (g : List ℕ) (c : Command) (load : List ℕ) (a b d m : ℕ) → is_reset c ≡ false → length (offer (OfMaster ms) e) ≡ ms.lengths.master
    → Spot (session_pieces ms) (connection_pieces ms) (parameter_pieces ms) (phase_of c) a b d m → MasterAt ms id e (phase_of c) a b d
    → Next ms id e g c load (answer (master_of ms) (received g c load e) (record { command = c; load = load })) (phase_of c) a b d m
next ms id e g command.Reset load a b d m n long s h = cc
next ms id e g command.Session load a b d m n long (InSession _ most) h = session-next ms id e g load a _ h most refl
next ms id e g command.Connection load a b d m n long (InConnection _ _ most at) h = connection-next ms id e g load b m _ h most at refl
next ms id e g command.Parameter load a b d m n long (InParameter _ _ most at) h = parameter-next ms id e g load d m _ long h most at refl
next ms id e g command.FailSafeData load a b d m n long (InData _ past) h = data-next ms id e g command.FailSafeData load state.Data a b d m (held e) long (MoreZeros m past) (MoreValues m past) refl
next ms id e g command.ProcessData load a b d m n long (InData _ past) h = data-next ms id e g command.ProcessData load state.Data a b d m (held e) long (MoreZeros m past) (MoreValues m past) refl

-- what a master sent with that frame
pub master_after : (ms : MasterSettings) (id : ℕ) (e w : List Deed) (g : List ℕ) (c c' : Command) (load made : List ℕ) (p : State) (a b d conn : ℕ) → is_reset c' ≡ false → MasterAt ms id e p a b d
    → MasterAt ms id (answering g c load (seal (master_of ms) w conn c' made) ∷ e) (phase_of c') (more state.Session c' a) (more state.Connection c' b) (more state.Parameter c' d)
master_after ms id e w g c command.Reset load made p a b d conn n h = cc
master_after ms id e w g c command.Session load made p a b d conn n h =
    record { phase = refl; session = ap suc h.session; connection = h.connection; parameters = h.parameters; id_is = ap (λ o. option_or o (Some (nonce (OfMaster ms) e))) h.id_is }
master_after ms id e w g c command.Connection load made p a b d conn n h = record { phase = refl; session = h.session; connection = ap suc h.connection; parameters = h.parameters; id_is = h.id_is }
master_after ms id e w g c command.Parameter load made p a b d conn n h = record { phase = refl; session = h.session; connection = h.connection; parameters = ap suc h.parameters; id_is = h.id_is }
master_after ms id e w g c _ load made p a b d conn n h = record { phase = refl; session = h.session; connection = h.connection; parameters = h.parameters; id_is = h.id_is }
