-- A slave takes the master's frame that is on its way, and answers it: the frame passes all tests, and what the slave
-- took after it tells the answer that it seals.
use Rattle.exchange_model.proofs.Common.{Command, Deed, Frame, IsValid, MasterSettings, OfMaster, State, all_zero, allows, answer, code, command_byte, command_of, common_steps, conn_id, connection_payload, contents, contents_fault, count_in, eq-eqb, frame_of, has_conn, held, id_len, id_piece, is_padded, is_reset, joined, length-replicate, number_at, offer, padded, parameter_payload, phase_of, piece, pieces_for, received, rule_len, seal, sealed_next, session_id, session_payload, since, slave_allows, taken, whole, with_data}
use Rattle.std.proofs.Common.{◌≡◌, ℕ, suc, ◌+◌, ◌*◌, ◌<◌, ◌≤◌, nat_le, List, ◌++◌, length, take, drop, true, false, not, Some, None, if◌then◌else◌, refl, sym, ap, ap₂, subst, ◌∙◌, arith, [], ◌∷◌, replicate, Bool, rules}
use Rattle.std.proofs.lemmas.Bool.Decides.{nat_tests}
use Rattle.fsoe_base.specs.declared.command.State.TheVariants as state
use Rattle.fsoe_base.specs.declared.command.Command.TheVariants as command
use Rattle.param_load.specs.declared.contents.Expected.TheVariants as expected
use Rattle.end_model.proofs.WholeUploads.{by_count}
use Rattle.exchange_model.proofs.Honest.Fronts.{front_long, front_begun, drop_padded, not_yet, all_come, IsBegun, padded_twice}
use Rattle.exchange_model.proofs.Alone.Framed.{piece_fits, command_back}
use Rattle.exchange_model.proofs.Honest.OnItsWay.{OnItsWay, fits_on, answering}
use Rattle.exchange_model.proofs.Alone.Pieces.{front, piece_short, take_padded, piece_filled}
use Rattle.exchange_model.proofs.Honest.ResetFrames.{zeros_all}
use Rattle.exchange_model.proofs.Honest.Turns.{session_long, Partner, master_of, slave_of, width, session_pieces, connection_pieces, parameter_pieces, Turn, MoreSession, FirstConnection, MoreConnection, FirstParameter, MoreParameter, FirstZeros, FirstValues, SlaveAt, partner, more}
use Rattle.exchange_model.proofs.Honest.UploadTests.{session_passes, connection_passes, parameters_pass, parameters_count}

-- what a frame of the master carries in its turn
abbrev pub Carries : MasterSettings → ℕ → Command → ℕ → ℕ → ℕ → ℕ → List ℕ → Type 0
Carries ms id command.Reset a b d conn load = ⊥
Carries ms id command.Session a b d conn load = (conn ≡ 0) × (load ≡ padded (piece (session_payload id ms.profile) (width ms) (suc a)) ms.lengths.master)
Carries ms id command.Connection a b d conn load = (conn ≡ ms.conn) × (load ≡ padded (piece (connection_payload ms.conn ms.address) (width ms) (suc b)) ms.lengths.master)
Carries ms id command.Parameter a b d conn load = (conn ≡ ms.conn) × (load ≡ padded (piece (parameter_payload ms.watchdog ms.profile ms.app) (width ms) (suc d)) ms.lengths.master)
Carries ms id command.FailSafeData a b d conn load = (conn ≡ ms.conn) × (all_zero load ≡ true)
Carries ms id command.ProcessData a b d conn load = conn ≡ ms.conn

pub some_width : (ms : MasterSettings) → 0 < width ms
some_width ms = search rules

-- whether so many pieces are a whole payload
not-done : (n c k : ℕ) (u : List ℕ) → 0 < c → k < pieces_for n c → length u ≡ k * c → nat_le n (length u) ≡ false
not-done n c k u h g e = let f : k * c < n = not_yet n c k h g in grind (arith, nat_tests)

done : (n c : ℕ) (u : List ℕ) → 0 < c → length u ≡ pieces_for n c * c → nat_le n (length u) ≡ true
done n c u h e = let f : n ≤ pieces_for n c * c = all_come n c (pieces_for n c) h (omega arith) in grind (arith, nat_tests)

-- what the slave joined of the parameters is whole when all bytes came
loaded : (ms : MasterSettings) (id : ℕ) (v : List Deed) (p : State) (a b d : ℕ) → SlaveAt ms id v p a b d
    → whole ms.profile state.Parameter (joined state.Parameter (width ms) v) ≡ nat_le (id_len ms.profile + 4 + length ms.app) (length (joined state.Parameter (width ms) v))
loaded ms id v p a b d h =
    let u : List ℕ = joined state.Parameter (width ms) v in
    let begun : IsBegun u (parameter_payload ms.watchdog ms.profile ms.app) =
    subst (λ (u : List ℕ). IsBegun u (parameter_payload ms.watchdog ms.profile ms.app)) (sym h.parameters) (front_begun (parameter_payload ms.watchdog ms.profile ms.app) (width ms) d (some_width ms)) in
    by_count (id_len ms.profile) (length ms.app) (number_at (id_len ms.profile + 2) u) (length u) _ refl (λ k. parameters_count ms.watchdog ms.profile ms.app u begun k)

-- the command in turn is allowed
turn-allowed : (ms : MasterSettings) (id : ℕ) (v : List Deed) (c : Command) (p : State) (a b d k : ℕ) → SlaveAt ms id v p a b d
    → Turn (session_pieces ms) (connection_pieces ms) (parameter_pieces ms) c p a b d k → slave_allows p (whole ms.profile p (joined p (width ms) v)) c ≡ true
turn-allowed ms id v c p a b d k h (MoreSession _ g) =
    ap not (not-done (id_len ms.profile) (width ms) a (joined state.Session (width ms) v) (some_width ms) g (ap length h.session ∙ front_long _ (width ms) a))
turn-allowed ms id v c p a b d k h FirstConnection = search (rules, done, some_width, front_long)
turn-allowed ms id v c p a b d k h (MoreConnection _ _ g e) =
    ap not (not-done 4 (width ms) b (joined state.Connection (width ms) v) (some_width ms) g (ap length h.connection ∙ front_long _ (width ms) b))
turn-allowed ms id v c p a b d k h (FirstParameter _ e) = search (rules, done, some_width, front_long)
turn-allowed ms id v c p a b d k h (MoreParameter _ _ g e) = ap not (loaded ms id v p a b d h ∙ not-done (id_len ms.profile + 4 + length ms.app) (width ms) d (joined state.Parameter (width ms) v) (some_width ms) g (ap length h.parameters ∙ front_long _ (width ms) d))
turn-allowed ms id v c p a b d k h (FirstZeros _ e) = loaded ms id v p a b d h ∙ done (id_len ms.profile + 4 + length ms.app) (width ms) (joined state.Parameter (width ms) v) (some_width ms) (ap length h.parameters ∙ front_long _ (width ms) d)
turn-allowed ms id v c p a b d k h (FirstValues _ e) = loaded ms id v p a b d h ∙ done (id_len ms.profile + 4 + length ms.app) (width ms) (joined state.Parameter (width ms) v) (some_width ms) (ap length h.parameters ∙ front_long _ (width ms) d)
turn-allowed ms id v c p a b d k h _ = refl

-- one more piece of a payload was joined
joined-more : (ms : MasterSettings) (p : List ℕ) (k : ℕ) (before load : List ℕ) → before ≡ front p (width ms) k → load ≡ padded (piece p (width ms) (suc k)) ms.lengths.master → before ++ take (width ms) load ≡ front p (width ms) (suc k)
joined-more ms p k before load h is = ap₂ (λ (t u : List ℕ). t ++ take (width ms) u) h is ∙ ap (λ t. front p (width ms) k ++ t) (take_padded (piece p (width ms) (suc k)) (width ms) ms.lengths.master (piece_short p (width ms) (suc k)) (piece_fits (OfMaster ms)))

-- what a slave has with the frame begins the payload, and zeros come after the piece
begun-with : (ms : MasterSettings) (p : List ℕ) (k : ℕ) (before load : List ℕ) → before ≡ front p (width ms) k → load ≡ padded (piece p (width ms) (suc k)) ms.lengths.master
    → IsBegun (before ++ take (width ms) load) p × (all_zero (drop (width ms) load) ≡ true)
begun-with ms p k before load h is = (
  subst (λ (u : List ℕ). IsBegun u p) (sym (joined-more ms p k before load h is)) (front_begun p (width ms) (suc k) (some_width ms)),
  ap (λ t. all_zero (drop (width ms) t)) is ∙ drop_padded (piece p (width ms) (suc k)) (width ms) ms.lengths.master (piece_short p (width ms) (suc k)),
)

-- the settings of both match
pub record Accepts (ms : MasterSettings) (r : Partner ms) : Type 0 where
  pub watchdog : ms.watchdog ≤ r.slave.most
  pub as_many : length ms.app ≡ rule_len r.slave.rule
  pub allowed : allows r.slave.rule ms.app ≡ true

-- a frame with these parts
abbrev pub parts_with : ℕ → Command → List ℕ → List ℕ → Frame
parts_with conn c load crcs = record { cmd = command_byte c; load = load; crcs = crcs; conn = conn }

passes-contents : (ms : MasterSettings) (r : Partner ms) (id : ℕ) (e : List Deed) (c : Command) (p : State) (a b d conn : ℕ) (load crcs : List ℕ) → Accepts ms r → SlaveAt ms id (since e) p a b d
    → Carries ms id c a b d conn load → contents (slave_of ms r) e c (parts_with conn c load crcs) ≡ None
passes-contents ms r id e command.Reset p a b d conn load crcs m h k = absurd k
passes-contents ms r id e command.Session p a b d conn load crcs m h k =
    let begun = begun-with ms (session_payload id ms.profile) a (joined state.Session (width ms) (since e)) load h.session k.1 in
    session_passes id ms.profile r.slave.rule (length (joined state.Session (width ms) (since e))) _ (drop (width ms) load) begun.0 begun.1
passes-contents ms r id e command.Connection p a b d conn load crcs m h k =
    let begun = begun-with ms (connection_payload ms.conn ms.address) b (joined state.Connection (width ms) (since e)) load h.connection k.1 in
    ap (λ n. contents_fault (expected.Connection n ms.address) r.slave.rule (length (joined state.Connection (width ms) (since e))) (joined state.Connection (width ms) (since e) ++ take (width ms) load) (drop (width ms) load)) k.0
    ∙ connection_passes ms.conn ms.address r.slave.rule (length (joined state.Connection (width ms) (since e))) _ (drop (width ms) load) begun.0 begun.1
passes-contents ms r id e command.Parameter p a b d conn load crcs m h k =
    let begun = begun-with ms (parameter_payload ms.watchdog ms.profile ms.app) d (joined state.Parameter (width ms) (since e)) load h.parameters k.1 in
    parameters_pass ms.watchdog r.slave.most r.slave.rule ms.profile ms.app (length (joined state.Parameter (width ms) (since e))) _ (drop (width ms) load) ms.some_watchdog m.watchdog m.as_many m.allowed begun.0 begun.1
passes-contents ms r id e command.FailSafeData p a b d conn load crcs m h k = ap (λ b. if b then None else Some (code 0x07)) k.1
passes-contents ms r id e command.ProcessData p a b d conn load crcs m h k = refl

has-conn : (ms : MasterSettings) (r : Partner ms) (id : ℕ) (e : List Deed) (c : Command) (p : State) (a b d conn : ℕ) (load : List ℕ) → SlaveAt ms id (since e) p a b d → Carries ms id c a b d conn load
    → has_conn (slave_of ms r) e c conn ≡ true
has-conn ms r id e c p a b d conn load h k = search (rules, eq-eqb)

-- the frame in turn passes all tests of the slave
pub slave_valid : (ms : MasterSettings) (r : Partner ms) (id : ℕ) (u e : List Deed) (c : Command) (p : State) (a b d k conn : ℕ) (load f : List ℕ) → Accepts ms r → OnItsWay (master_of ms) (slave_of ms r) u (since e) conn c load f
    → SlaveAt ms id (since e) p a b d → Turn (session_pieces ms) (connection_pieces ms) (parameter_pieces ms) c p a b d k → Carries ms id c a b d conn load → IsValid (slave_of ms r) e f c load
slave_valid ms r id u e c p a b d k conn load f m o h t carries =
    record {
      is_read = record { has_length = o.long; is_new = o.is_new; command_is = ap (λ (g : Frame). command_of g.cmd) o.frame ∙ command_back c };
      load_is = ap (λ (g : Frame). g.load) o.frame;
      is_allowed = ap (λ (p : State). slave_allows p (whole ms.profile p (joined p (width ms) (since e))) c) h.phase ∙ turn-allowed ms id (since e) c p a b d k h t;
      has_conn_id = ap (λ (g : Frame). has_conn (slave_of ms r) e c g.conn) o.frame ∙ has-conn ms r id e c p a b d conn load h carries;
      does_fit = fits_on (master_of ms) (slave_of ms r) u (since e) conn c load f refl o;
      is_sound = ap (contents (slave_of ms r) e c) o.frame ∙ passes-contents ms r id e c p a b d conn load _ m h carries;
    }

-- what a slave took with one more frame
pub slave_after : (ms : MasterSettings) (id : ℕ) (v : List Deed) (c : Command) (p : State) (a b d conn : ℕ) (load f g tail : List ℕ) → SlaveAt ms id v p a b d → f ≡ command_byte c ∷ tail
    → (frame_of ms.lengths.master f).conn ≡ conn → Carries ms id c a b d conn load
    → SlaveAt ms id (answering f c load g ∷ v) (phase_of c) (more state.Session c a) (more state.Connection c b) (more state.Parameter c d)
slave_after ms id v c p a b d conn load f g tail h k l m = search (rules, joined-more)

-- what an answer carries, after these pieces
abbrev pub Replies : MasterSettings → ℕ → Command → ℕ → ℕ → ℕ → ℕ → List ℕ → Type 0
Replies ms id command.Reset a b d conn load = ⊥
Replies ms id command.Session a b d conn load = (conn ≡ 0) × (is_padded (piece (session_payload id ms.profile) (width ms) a) load ≡ true)
Replies ms id command.Connection a b d conn load = (conn ≡ ms.conn) × (load ≡ padded (piece (connection_payload ms.conn ms.address) (width ms) b) ms.lengths.slave)
Replies ms id command.Parameter a b d conn load = (conn ≡ ms.conn) × (load ≡ padded (piece (parameter_payload ms.watchdog ms.profile ms.app) (width ms) d) ms.lengths.slave)
Replies ms id command.FailSafeData a b d conn load = (conn ≡ ms.conn) × (all_zero load ≡ true)
Replies ms id command.ProcessData a b d conn load = conn ≡ ms.conn

-- an answer that a slave seals
pub record Reply (ms : MasterSettings) (r : Partner ms) (id : ℕ) (e : List Deed) (f : List ℕ) (c : Command) (load : List ℕ) (a b d : ℕ) : Type 0 where
  pub conn : ℕ
  pub command : Command
  pub made : List ℕ
  pub in_session : is_reset command ≡ false
  pub same : phase_of command ≡ phase_of c
  pub long : length made ≡ ms.lengths.slave
  pub is : answer (slave_of ms r) (received f c load e) (record { command = c; load = load }) ≡ seal (slave_of ms r) (answering f c load [] ∷ since e) conn command made
  pub replies : Replies ms id command a b d conn made

-- the bytes of a piece are as many as those of the same piece of a payload that is as long
piece-long : (p q : List ℕ) (c k : ℕ) → length p ≡ length q → length (piece p c k) ≡ length (piece q c k)
piece-long p q c k h = grind (arith, common_steps)

echo-long : (q : List ℕ) (c l m : ℕ) (load : List ℕ) → length q ≤ c → c ≤ l → c ≤ m → load ≡ padded q l → padded (take c load) m ≡ padded q m
echo-long q c l m load h i j e = ap (λ t. padded (take c t) m) e ∙ (ap (λ t. padded t m) (take_padded q c l h i) ∙ padded_twice q c m h j)

data-reply : (ms : MasterSettings) (r : Partner ms) (id : ℕ) (e : List Deed) (f load : List ℕ) (c : Command) (a b d : ℕ) (hold : Bool) → is_reset c ≡ false → phase_of c ≡ state.Data
    → answer (slave_of ms r) (received f c load e) (record { command = c; load = load }) ≡ with_data (slave_of ms r) (received f c load e)
    → conn_id (slave_of ms r) (received f c load e) ≡ ms.conn → length (offer (slave_of ms r) e) ≡ ms.lengths.slave → held e ≡ hold → Reply ms r id e f c load a b d
data-reply ms r id e f load c a b d true n p is conn long h =
    record {
      conn = conn_id (slave_of ms r) (received f c load e);
      command = command.FailSafeData;
      made = replicate ms.lengths.slave 0;
      in_session = refl;
      same = sym p;
      long = length-replicate ms.lengths.slave 0;
      is = is ∙ ap (λ (b : Bool). if b then sealed_next (slave_of ms r) (received f c load e) command.FailSafeData (replicate ms.lengths.slave 0) else sealed_next (slave_of ms r) (received f c load e) command.ProcessData (offer (slave_of ms r) e)) h;
      replies = (conn, zeros_all ms.lengths.slave);
    }
data-reply ms r id e f load c a b d false n p is conn long h =
    search rules

-- past the session id a connection id has come
abbrev SomeConn : Command → ℕ → Type 0
SomeConn command.Reset b = Unit {0}
SomeConn command.Session b = Unit {0}
SomeConn command.Connection b = Unit {0}
SomeConn _ b = 0 < b

pub some_conn : (n n' n'' : ℕ) (c : Command) (p : State) (a b d k : ℕ) → 0 < n' → Turn n n' n'' c p a b d k → SomeConn c b
some_conn n n' n'' c p a b d k h l = grind arith

-- where a connection id came, it is the session's
conn-known : (ms : MasterSettings) (r : Partner ms) (id : ℕ) (e : List Deed) (f load : List ℕ) (c : Command) (p : State) (a b d : ℕ) → is_reset c ≡ false → 0 < b → SlaveAt ms id (answering f c load [] ∷ since e) p a b d
    → conn_id (slave_of ms r) (received f c load e) ≡ ms.conn
conn-known ms r id e f load c p a b d h k l = grind arith

-- an answer that echoes the k-th piece of a payload
echo-reply : (ms : MasterSettings) (r : Partner ms) (id : ℕ) (e : List Deed) (f load : List ℕ) (c : Command) (a b d : ℕ) (p : List ℕ) (k : ℕ) → is_reset c ≡ false
    → answer (slave_of ms r) (received f c load e) (record { command = c; load = load }) ≡ seal (slave_of ms r) (answering f c load [] ∷ since e) (conn_id (slave_of ms r) (received f c load e)) c (padded (take (width ms) load) ms.lengths.slave)
    → load ≡ padded (piece p (width ms) k) ms.lengths.master
    → (padded (take (width ms) load) ms.lengths.slave ≡ padded (piece p (width ms) k) ms.lengths.slave → Replies ms id c a b d (conn_id (slave_of ms r) (received f c load e)) (padded (take (width ms) load) ms.lengths.slave))
    → Reply ms r id e f c load a b d
echo-reply ms r id e f load c a b d p k n is carried replies =
    let same : padded (take (width ms) load) ms.lengths.slave ≡ padded (piece p (width ms) k) ms.lengths.slave = search (rules, padded, take, echo-long, piece_short, piece_fits) in
    record { conn = _; command = c; made = _; in_session = n; same = refl; long = ap length same ∙ piece_filled (slave_of ms r) p k; is = is; replies = replies same }

-- the answer to the frame in turn
pub reply : (ms : MasterSettings) (r : Partner ms) (id : ℕ) (e : List Deed) (f load : List ℕ) (c : Command) (a b d conn : ℕ) → length (offer (slave_of ms r) e) ≡ ms.lengths.slave → SomeConn c b → Carries ms id c a b d conn load
    → SlaveAt ms id (answering f c load [] ∷ since e) (phase_of c) (more state.Session c a) (more state.Connection c b) (more state.Parameter c d)
    → Reply ms r id e f c load (more state.Session c a) (more state.Connection c b) (more state.Parameter c d)
reply ms r id e f load command.Reset a b d conn long some k h = absurd k
reply ms r id e f load command.Session a b d conn long some k h =
    let sid : ℕ = session_id (slave_of ms r) (received f command.Session load e) in
    let q : List ℕ = id_piece (partner ms r) (received f command.Session load e) in
    let same : length (piece (session_payload id ms.profile) (width ms) (suc a)) ≡ length q = search (rules, piece-long, session_long) in
    record {
      conn = 0;
      command = command.Session;
      made = padded q ms.lengths.slave;
      in_session = refl;
      same = refl;
      long = piece_filled (slave_of ms r) (session_payload sid ms.profile) (count_in state.Session (f ∷ taken (since e)));
      is = refl;
      replies = (refl, ap (λ n. all_zero (drop n (padded q ms.lengths.slave))) same ∙ drop_padded q (length q) ms.lengths.slave (omega arith));
    }
reply ms r id e f load command.Connection a b d conn long some k h =
    echo-reply ms r id e f load command.Connection a (suc b) d (connection_payload ms.conn ms.address) (suc b) refl refl k.1 (λ same. (conn-known ms r id e f load command.Connection state.Connection a (suc b) d refl (omega arith) h, same))
reply ms r id e f load command.Parameter a b d conn long some k h =
    echo-reply ms r id e f load command.Parameter a b (suc d) (parameter_payload ms.watchdog ms.profile ms.app) (suc d) refl refl k.1 (λ same. (conn-known ms r id e f load command.Parameter state.Parameter a b (suc d) refl some h, same))
reply ms r id e f load command.FailSafeData a b d conn long some k h =
    data-reply ms r id e f load command.FailSafeData a b d (held e) refl refl refl (conn-known ms r id e f load command.FailSafeData state.Data a b d refl some h) long refl
reply ms r id e f load command.ProcessData a b d conn long some k h =
    data-reply ms r id e f load command.ProcessData a b d (held e) refl refl refl (conn-known ms r id e f load command.ProcessData state.Data a b d refl some h) long refl
