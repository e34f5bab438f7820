-- What is kept of a trace is what looking back over it says, with one more frame that is as it must be too.
use Rattle.trace_diag.proofs.Common.{Before, Chain, Command, End, Frame, Lengths, Noted, State, before, chain_after, chain_of, chain_with, command_byte, conn_in, conn_with, connection_from, connection_with, first_conn, frame_of, frames_from, fresh, phase_following, has_command, kept_from, length_of, newest_load, newest_piece, option_or, parameters_from, parameters_with, payload_from, peer, phase_due, phase_from, phase_of, phase_of_frame, phase_when, piece_asked, trace_piece_len, piece_of, piece_place, place_when, same_end, same_itself, same_phase, turn, whole}
use Rattle.std.proofs.Common.{◌≡◌, ℕ, ◌+◌, ◌<◌, ◌≤◌, List, [], ◌∷◌, ◌++◌, length, take, drop, Bool, Option, refl, sym, ap, ap₂, ◌∙◌, arith, if◌then◌else◌, rules}
use Rattle.fsoe_base.specs.declared.command.Command.TheVariants as command
use Rattle.fsoe_base.specs.declared.command.End.TheVariants as end_name
use Rattle.fsoe_base.specs.declared.command.State.TheVariants as state
use Rattle.trace_diag.proofs.Heads.{head_of, HasHead}
use Rattle.trace_diag.proofs.NoField.{IsInTurn}
use Rattle.trace_diag.proofs.PayloadRows.{due_is, is_from, master_place, same_end_is, IsFrom}
use Rattle.trace_diag.proofs.RowsHold.{piece_long, AllInTurn}
use Rattle.trace_diag.proofs.SentRows.{same_state, CarriesOwn}

-- the phases in order
abbrev rank : State → ℕ
rank state.Reset = 0
rank state.Session = 1
rank state.Connection = 2
rank state.Parameter = 3
rank state.Data = 4

-- the phases go forward: of those after the one that is due no frame has come
abbrev pub NoLater : Lengths → List Noted → Type 0
NoLater lengths t = (phase : State) → rank (phase_due lengths t) < rank phase → payload_from lengths end_name.Master phase t ≡ []

-- the phase that is due after a frame
due-after : (lengths : Lengths) (t : List Noted) (which : End) (x : Noted) → IsFrom lengths t which x → phase_due lengths (x ∷ t) ≡ phase_from lengths (x ∷ t) (peer which) (phase_due lengths t)
due-after lengths t which x h = ap₂ (λ (e : End) (p : State). phase_from lengths (x ∷ t) (peer e) p) h.turn_is (sym (due_is lengths t which x h))

later-on : (lengths : Lengths) (t : List Noted) (x : Noted) (which : End) → rank (phase_due lengths t) ≤ rank (phase_from lengths (x ∷ t) (peer which) (phase_due lengths t))
later-on lengths t x which = grind arith

no-later-more : (lengths : Lengths) (t : List Noted) (which : End) (x : Noted) → IsFrom lengths t which x → NoLater lengths t → NoLater lengths (x ∷ t)
no-later-more lengths t which x h k = search (rules, later-on, due_is)

-- the end whose turn it was
from-turn : (lengths : Lengths) (t : List Noted) (x : Noted) → IsInTurn lengths (before lengths t) x → IsFrom lengths t (turn t) x
from-turn lengths t x h = is_from lengths t (turn t) x (ap (same_end (turn t)) (sym (same_end_is x.from (turn t) h.turn)) ∙ same_itself (turn t)) h

pub no_later : (lengths : Lengths) (t : List Noted) → AllInTurn lengths t → NoLater lengths t
no_later lengths [] h phase less = refl
no_later lengths (x ∷ t) h phase less = no-later-more lengths t (turn t) x (from-turn lengths t x h.0) (no_later lengths t h.1) phase less

same-kept : (a b : Before) → a.turn ≡ b.turn → a.due ≡ b.due → a.place ≡ b.place → a.conn ≡ b.conn → a.connection ≡ b.connection → a.parameters ≡ b.parameters → a.piece ≡ b.piece → a.chain ≡ b.chain → a ≡ b
same-kept a b h k l m n o p q = grind arith

conn-is : (l : ℕ) (c : Command) (tail : List ℕ) (o : Option ℕ) (n : ℕ) → (frame_of l (command_byte c ∷ tail)).conn ≡ n → option_or o (conn_in l (command_byte c ∷ tail)) ≡ conn_with (phase_of c) o n
conn-is l c tail o n h = grind arith

connection-is : (p : State) (u part : List ℕ) → take 4 (if same_phase state.Connection p then u ++ part else u) ≡ connection_with p (take 4 u) part
connection-is p u part = grind arith

parameters-are : (p : State) (u part : List ℕ) → take 6 (if same_phase state.Parameter p then u ++ part else u) ≡ parameters_with p (take 6 u) part
parameters-are p u part = grind arith

place-kept : (lengths : Lengths) (x : Noted) (t : List Noted) (p : State) → piece_place lengths (x ∷ t) p end_name.Slave ≡ piece_place lengths t p end_name.Master
place-kept lengths x t p = grind arith

piece-is : (lengths : Lengths) (t : List Noted) (p : State) (part : List ℕ) → newest_piece lengths t ≡ part → piece_asked lengths t p end_name.Slave ≡ piece_of p part
piece-is lengths t p part h = grind arith

chain-is : (lengths : Lengths) (chain : Chain) (which : End) (c : Command) (tail : List ℕ) → (if has_command command.Reset (command_byte c ∷ tail) then fresh else chain_with lengths chain which (command_byte c ∷ tail))
    ≡ chain_after (phase_of c) chain which (frame_of (length_of lengths which) (command_byte c ∷ tail))
chain-is lengths chain which c tail = grind arith

chain-more : (lengths : Lengths) (t : List Noted) (which : End) (x : Noted) → x.from ≡ which → IsFrom lengths t which x → chain_of lengths (x ∷ t) ≡ chain_after (phase_due lengths t) (chain_of lengths t) which (frame_of (length_of lengths which) x.frame)
chain-more lengths t which x from h =
    let head : HasHead lengths t (length_of lengths which) x.frame = head_of lengths t which x h in
    ap₂ (λ (e : End) (bytes : List ℕ). if has_command command.Reset bytes then fresh else chain_with lengths (chain_of lengths t) e bytes) from head.is
    ∙ (chain-is lengths (chain_of lengths t) which head.command head.tail
    ∙ ap₂ (λ (p : State) (bytes : List ℕ). chain_after p (chain_of lengths t) which (frame_of (length_of lengths which) bytes)) (sym head.due) (sym head.is))

payload-mine : (lengths : Lengths) (phase p : State) (x : Noted) (t : List Noted) → x.from ≡ end_name.Master → phase_of_frame x.frame ≡ p → payload_from lengths end_name.Master phase (x ∷ t)
    ≡ (if same_phase phase p then payload_from lengths end_name.Master phase t ++ take (trace_piece_len lengths) (frame_of lengths.master x.frame).load else payload_from lengths end_name.Master phase t)
payload-mine lengths phase p x t h k = grind arith

payload-theirs : (lengths : Lengths) (phase : State) (x : Noted) (t : List Noted) → x.from ≡ end_name.Slave → payload_from lengths end_name.Master phase (x ∷ t) ≡ payload_from lengths end_name.Master phase t
payload-theirs lengths phase x t h = grind arith

frames-mine : (x : Noted) (t : List Noted) → x.from ≡ end_name.Master → frames_from end_name.Master (x ∷ t) ≡ x.frame ∷ frames_from end_name.Master t
frames-mine x t from = ap (λ (e : End). if same_end end_name.Master e then x.frame ∷ frames_from end_name.Master t else frames_from end_name.Master t) from

frames-theirs : (x : Noted) (t : List Noted) → x.from ≡ end_name.Slave → frames_from end_name.Master (x ∷ t) ≡ frames_from end_name.Master t
frames-theirs x t from = ap (λ (e : End). if same_end end_name.Master e then x.frame ∷ frames_from end_name.Master t else frames_from end_name.Master t) from

-- after a frame of the master
master-kept : (lengths : Lengths) (x : Noted) (t : List Noted) → x.from ≡ end_name.Master → IsFrom lengths t end_name.Master x → before lengths (x ∷ t) ≡ kept_from (trace_piece_len lengths) (before lengths t) end_name.Master (frame_of lengths.master x.frame)
master-kept lengths x t from h =
    let f : Frame = frame_of lengths.master x.frame in
    let p : State = phase_due lengths t in
    let head : HasHead lengths t lengths.master x.frame = head_of lengths t end_name.Master x h in
    let of-phase : phase_of_frame x.frame ≡ p = sym (due_is lengths t end_name.Master x h) in
    let due : phase_due lengths (x ∷ t) ≡ p = due-after lengths t end_name.Master x h in
    let turned-to : turn (x ∷ t) ≡ end_name.Slave = ap peer h.turn_is in
    same-kept (before lengths (x ∷ t)) (kept_from (trace_piece_len lengths) (before lengths t) end_name.Master f) turned-to due
    (ap₂ (λ (p : State) (e : End). piece_place lengths (x ∷ t) p e) due turned-to ∙ (place-kept lengths x t p ∙ ap (λ (e : End). piece_place lengths t p e) (sym h.turn_is)))
    (ap (first_conn lengths.master) (frames-mine x t from)
    ∙ (ap (λ (bytes : List ℕ). option_or (first_conn lengths.master (frames_from end_name.Master t)) (conn_in lengths.master bytes)) head.is
    ∙ (conn-is lengths.master head.command head.tail (first_conn lengths.master (frames_from end_name.Master t)) f.conn (ap (λ (bytes : List ℕ). (frame_of lengths.master bytes).conn) (sym head.is))
    ∙ ap (λ (p : State). conn_with p (first_conn lengths.master (frames_from end_name.Master t)) f.conn) (sym head.due))))
    (ap (take 4) (payload-mine lengths state.Connection p x t from of-phase) ∙ connection-is p (connection_from lengths t) (take (trace_piece_len lengths) f.load))
    (ap (take 6) (payload-mine lengths state.Parameter p x t from of-phase) ∙ parameters-are p (parameters_from lengths t) (take (trace_piece_len lengths) f.load))
    (ap₂ (λ (p : State) (e : End). piece_asked lengths (x ∷ t) p e) due turned-to
    ∙ piece-is lengths (x ∷ t) p (take (trace_piece_len lengths) f.load) (ap (λ (frames : List (List ℕ)). take (trace_piece_len lengths) (newest_load lengths.master frames)) (frames-mine x t from)))
    (chain-more lengths t end_name.Master x from h)

-- the bytes of the payload in hand, with the piece that is answered
came-long : (lengths : Lengths) (y : Noted) (t : List Noted) (p : State) → IsFrom lengths t end_name.Master y → y.from ≡ end_name.Master → phase_of_frame y.frame ≡ p
    → length (payload_from lengths end_name.Master p (y ∷ t)) ≡ length (payload_from lengths end_name.Master p t) + trace_piece_len lengths
came-long lengths y t p h from of-phase =
    ap (length {A = ℕ}) (payload-mine lengths p p y t from of-phase)
    ∙ (piece_long lengths end_name.Master y (payload_from lengths end_name.Master p t) (same_phase p p) (whole lengths.master y.frame lengths.valid_master h.long).load
    ∙ ap (λ (b : Bool). length (payload_from lengths end_name.Master p t) + (if b then trace_piece_len lengths else 0)) (same_state p))

goes-by : (p : State) (u : List ℕ) (n : ℕ) (v : List ℕ) → (CarriesOwn end_name.Master p → length u ≡ n) → (p ≡ state.Parameter → take 6 u ≡ v) → phase_following p u ≡ phase_when p n v
goes-by p u n v h k = search rules

placed-by : (p : State) (place : State → ℕ) (n : ℕ) (v : List ℕ) → (CarriesOwn end_name.Master p → place p ≡ n) → ((q : State) → rank p < rank q → place q ≡ 0) → place state.Data ≡ 0 → place (phase_when p n v) ≡ place_when p n v
placed-by p place n v h k l = grind arith

slave-place : (lengths : Lengths) (t : List Noted) (p : State) → CarriesOwn end_name.Master p → piece_place lengths t p end_name.Slave ≡ length (payload_from lengths end_name.Master p (drop 1 t))
slave-place lengths t p own = grind arith

none-placed : (lengths : Lengths) (t : List Noted) (q : State) → payload_from lengths end_name.Master q t ≡ [] → piece_place lengths t q end_name.Master ≡ 0
none-placed lengths t q h = grind arith

none-asked : (lengths : Lengths) (t : List Noted) (p : State) → piece_asked lengths t p end_name.Master ≡ []
none-asked lengths t p = grind arith

-- after an answer of the slave to the newest of these frames
slave-kept : (lengths : Lengths) (x y : Noted) (t : List Noted) → x.from ≡ end_name.Slave → IsFrom lengths (y ∷ t) end_name.Slave x → y.from ≡ end_name.Master → IsFrom lengths t end_name.Master y → NoLater lengths (y ∷ t)
    → before lengths (x ∷ y ∷ t) ≡ kept_from (trace_piece_len lengths) (before lengths (y ∷ t)) end_name.Slave (frame_of lengths.slave x.frame)
slave-kept lengths x y t from h y-from y-is none =
    let c : ℕ = trace_piece_len lengths in
    let k : Before = before lengths (y ∷ t) in
    let p : State = phase_due lengths (y ∷ t) in
    let of-phase : phase_of_frame y.frame ≡ p = ap (λ (e : End). phase_from lengths (y ∷ t) e (phase_of_frame y.frame)) (sym h.turn_is) in
    let theirs : (phase : State) → payload_from lengths end_name.Master phase (x ∷ y ∷ t) ≡ payload_from lengths end_name.Master phase (y ∷ t) = λ phase. payload-theirs lengths phase x (y ∷ t) from in
    let long : CarriesOwn end_name.Master p → length (payload_from lengths end_name.Master p (x ∷ y ∷ t)) ≡ k.place + c = search (rules, came-long, piece_place, slave-place) in
    let six : p ≡ state.Parameter → take 6 (payload_from lengths end_name.Master p (x ∷ y ∷ t)) ≡ k.parameters = λ is. ap (take 6) (theirs p) ∙ ap (λ (p : State). take 6 (payload_from lengths end_name.Master p (y ∷ t))) is in
    let due : phase_due lengths (x ∷ y ∷ t) ≡ phase_when p (k.place + c) k.parameters = due-after lengths (y ∷ t) end_name.Slave x h ∙ goes-by p (payload_from lengths end_name.Master p (x ∷ y ∷ t)) (k.place + c) k.parameters long six in
    let turned-to : turn (x ∷ y ∷ t) ≡ end_name.Master = ap peer h.turn_is in
    same-kept (before lengths (x ∷ y ∷ t)) (kept_from c k end_name.Slave (frame_of lengths.slave x.frame)) turned-to due
    (ap₂ (λ (p : State) (e : End). piece_place lengths (x ∷ y ∷ t) p e) due turned-to
    ∙ placed-by p (λ p. piece_place lengths (x ∷ y ∷ t) p end_name.Master) (k.place + c) k.parameters (λ own. master_place lengths (x ∷ y ∷ t) p own ∙ long own) (λ q less. none-placed lengths (x ∷ y ∷ t) q (theirs q ∙ none q less)) refl)
    (ap (first_conn lengths.master) (frames-theirs x (y ∷ t) from))
    (ap (take 4) (theirs state.Connection))
    (ap (take 6) (theirs state.Parameter))
    (ap₂ (λ (p : State) (e : End). piece_asked lengths (x ∷ y ∷ t) p e) due turned-to ∙ none-asked lengths (x ∷ y ∷ t) (phase_when p (k.place + c) k.parameters))
    (chain-more lengths (y ∷ t) end_name.Slave x from h)

peer-slave : (e : End) → peer e ≡ end_name.Slave → e ≡ end_name.Master
peer-slave e h = grind arith

kept-at : (lengths : Lengths) (x : Noted) (t : List Noted) (at : End) → turn t ≡ at → x.from ≡ at → IsFrom lengths t at x → AllInTurn lengths t → before lengths (x ∷ t) ≡ kept_from (trace_piece_len lengths) (before lengths t) at (frame_of (length_of lengths at) x.frame)
kept-at lengths x t end_name.Master turned from h all = master-kept lengths x t from h
kept-at lengths x [] end_name.Slave turned from h all = cc
kept-at lengths x (y ∷ t) end_name.Slave turned from h all =
    let y-turn : turn t ≡ end_name.Master = peer-slave (turn t) turned in
    let y-from : y.from ≡ end_name.Master = sym (same_end_is y.from (turn t) all.0.turn) ∙ y-turn in
    slave-kept lengths x y t from h y-from (is_from lengths t end_name.Master y (ap (same_end end_name.Master) y-from) all.0) (no_later lengths (y ∷ t) all)

-- what is kept after one more frame that is as it must be
pub kept_goes : (lengths : Lengths) (x : Noted) (t : List Noted) → IsInTurn lengths (before lengths t) x → AllInTurn lengths t → before lengths (x ∷ t) ≡ kept_from (trace_piece_len lengths) (before lengths t) (turn t) (frame_of (length_of lengths (turn t)) x.frame)
kept_goes lengths x t h all = kept-at lengths x t (turn t) refl (sym (same_end_is x.from (turn t) h.turn)) (from-turn lengths t x h) all
