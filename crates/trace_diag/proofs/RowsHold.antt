-- The rows hold of all bytes of the payloads of a trace to which no row of the table applies.
use Rattle.trace_diag.proofs.Common.{Chain, Difference, End, Field, Frame, Lengths, Noted, State, before, carried, conn_holds, conn_in, connection_holds, count_crcs, count_groups, crcs_due, eq-eqb, eqb-true, field_of, first_conn, first_difference, first_of_both, frame_len, frame_of, frames_from, groups, halves, id_holds, is_slave_conn, length-append, length-take, length_of, option_or, parameter_holds, payload_from, peer, phase_due, phase_of_frame, trace_piece_len, piece_place, same_end, same_phase, same_Some, turn, whole}
use Rattle.std.proofs.Common.{◌≡◌, ◌==◌, ◌&&◌, ℕ, ◌+◌, ◌<◌, List, [], ◌∷◌, ◌++◌, length, take, drop, Bool, true, false, not, Option, Some, None, refl, sym, ap, ap₂, subst, ◌∙◌, arith, if◌then◌else◌, rules}
use Rattle.fsoe_base.specs.declared.command.End.TheVariants as end_name
use Rattle.fsoe_base.specs.declared.command.State.TheVariants as state
use Rattle.trace_diag.proofs.NoField.{none_in_turn, IsInTurn}
use Rattle.trace_diag.proofs.NoneApplies.{at}
use Rattle.trace_diag.proofs.PayloadBytes.{still_holds, valid_at, AllLong}
use Rattle.trace_diag.proofs.PayloadRows.{at_front, due_is, is_from, master_place, more_hold, own_bytes, parameter_same, AllAt, IsFrom}
use Rattle.trace_diag.proofs.PieceRows.{six_enough}
use Rattle.trace_diag.proofs.SentRows.{piece_fits, state_is, CarriesOwn}

-- each of these frames is as it must be after those before it
abbrev pub AllInTurn : Lengths → List Noted → Type 0
AllInTurn lengths [] = Unit {0}
AllInTurn lengths (x ∷ t) = IsInTurn lengths (before lengths t) x × AllInTurn lengths t

pub due_many : (phase : State) (chain : Chain) (which : End) (f : Frame) → length (crcs_due phase chain which f) ≡ length (groups f.load)
due_many phase chain which f = search (rules, count_crcs)

pub in_turn : (lengths : Lengths) (t : List Noted) (x : Noted) → field_of lengths t x ≡ None → IsInTurn lengths (before lengths t) x
in_turn lengths t x e = none_in_turn lengths (before lengths t) x many e
  where
    l : ℕ
    l = length_of lengths x.from

    many : (f : Frame) → f ≡ frame_of l x.frame → length x.frame ≡ frame_len l → length f.crcs ≡ length (crcs_due (phase_due lengths t) (before lengths t).chain x.from f)
    many f h k = search (rules, whole, valid_at, halves, count_groups, due_many, before)

pub no_first : (first : Option Difference) (field : Option Field) (n : ℕ) → first_of_both first field n ≡ None → (first ≡ None) × (field ≡ None)
no_first first field n h = grind arith

pub all_in_turn : (lengths : Lengths) (t : List Noted) → first_difference lengths t ≡ None → AllInTurn lengths t
all_in_turn lengths [] e = tt
all_in_turn lengths (x ∷ t) e =
    let both = no_first (first_difference lengths t) (field_of lengths t x) (length t + 1) e in
    (in_turn lengths t x both.1, all_in_turn lengths t both.0)

pub in_turn_long : (lengths : Lengths) (t : List Noted) → AllInTurn lengths t → AllLong lengths t
in_turn_long lengths [] h = refl
in_turn_long lengths (x ∷ t) h = ap₂ (λ (a b : Bool). a && b) (eq-eqb (length x.frame) (frame_len (length_of lengths x.from)) h.0.long) (in_turn_long lengths t h.1)

-- the phase of the newest frame
abbrev pub newest_phase : List Noted → State
newest_phase [] = state.Reset
newest_phase (y ∷ t) = phase_of_frame y.frame

-- how many bytes of both session ids came: the same before a frame of the master, and before an answer the slave's as
-- many as the master's before its newest frame
abbrev pub Even : Lengths → List Noted → End → Type 0
Even lengths t end_name.Master = length (payload_from lengths end_name.Slave state.Session t) ≡ length (payload_from lengths end_name.Master state.Session t)
Even lengths t end_name.Slave =
    (length (payload_from lengths end_name.Slave state.Session t) ≡ length (payload_from lengths end_name.Master state.Session (drop 1 t)))
    × (length (payload_from lengths end_name.Master state.Session t) ≡ length (payload_from lengths end_name.Slave state.Session t) + (if same_phase state.Session (newest_phase t) then trace_piece_len lengths else 0))

-- what the rows say of the payloads
pub record RowsHold (lengths : Lengths) (t : List Noted) : Type 0 where
  pub session : AllAt id_holds (payload_from lengths end_name.Master state.Session t)
  pub connection : (conn : ℕ) → first_conn lengths.master (frames_from end_name.Master t) ≡ Some conn → (0 < conn) × AllAt (connection_holds conn) (payload_from lengths end_name.Master state.Connection t)
  pub unconnected : first_conn lengths.master (frames_from end_name.Master t) ≡ None → payload_from lengths end_name.Master state.Connection t ≡ []
  pub parameters : AllAt (parameter_holds (payload_from lengths end_name.Master state.Parameter t)) (payload_from lengths end_name.Master state.Parameter t)
  pub slave : AllAt id_holds (payload_from lengths end_name.Slave state.Session t)
  pub even : Even lengths t (turn t)

-- the piece of a frame stands where its end's own bytes end
pub own_place : (lengths : Lengths) (t : List Noted) (which : End) (phase : State) → turn t ≡ which → CarriesOwn which phase → RowsHold lengths t → piece_place lengths t phase (turn t) ≡ length (payload_from lengths which phase t)
own_place lengths t which phase turned own rows = search (rules, master_place)

-- each byte of a session id
ids-more : (lengths : Lengths) (which : End) (x : Noted) (t : List Noted) → IsInTurn lengths (before lengths t) x → RowsHold lengths t → AllAt id_holds (payload_from lengths which state.Session t) → AllAt id_holds (payload_from lengths which state.Session (x ∷ t))
ids-more lengths which x t h rows before =
    still_holds (λ u. AllAt id_holds u) lengths which state.Session x t before
    (λ mine is. more_hold id_holds (payload_from lengths which state.Session t) load (trace_piece_len lengths) before
    (λ j within there.
    let from : IsFrom lengths t which x = is_from lengths t which x mine h in
    ap (λ (n : ℕ). id_holds (n + j) (at load j)) (sym (own_place lengths t which state.Session from.turn_is tt rows) ∙ ap (piece_place lengths t state.Session) from.turn_is)
    ∙ own_bytes lengths t which state.Session x tt from (state_is state.Session (phase_of_frame x.frame) is) j within there))
  where
    load : List ℕ
    load = (frame_of (length_of lengths which) x.frame).load

-- and of the parameters
parameters-more : (lengths : Lengths) (x : Noted) (t : List Noted) → IsInTurn lengths (before lengths t) x → RowsHold lengths t
    → AllAt (parameter_holds (payload_from lengths end_name.Master state.Parameter (x ∷ t))) (payload_from lengths end_name.Master state.Parameter (x ∷ t))
parameters-more lengths x t h rows =
    still_holds (λ u. AllAt (parameter_holds u) u) lengths end_name.Master state.Parameter x t rows.parameters
    (λ mine is. more_hold (parameter_holds (u ++ part)) u load (trace_piece_len lengths)
    (λ i within. parameter_same (u ++ part) u i (at u i) (λ k below six. at_front u part k (omega (arith, below, within))) ∙ rows.parameters i within)
    (λ j within there.
    parameter_same (u ++ part) (take 6 u ++ part) (length u + j) (at load j) (λ k below six. sym (six_enough u part k six))
    ∙ own_bytes lengths t end_name.Master state.Parameter x tt (is_from lengths t end_name.Master x mine h) (state_is state.Parameter (phase_of_frame x.frame) is) j within there))
  where
    u : List ℕ
    u = payload_from lengths end_name.Master state.Parameter t

    load : List ℕ
    load = (frame_of lengths.master x.frame).load

    part : List ℕ
    part = take (trace_piece_len lengths) load

first-some : (n : ℕ) → not (n == 0) ≡ true → 0 < n
first-some n h = grind arith

-- after a frame of Connection the first one's connection id is its own
conn-now : (first : Option ℕ) (n : ℕ) → is_slave_conn first n ≡ true → option_or first (Some n) ≡ Some n
conn-now first n h = grind (arith, eqb-true)

-- what holds of the connection ids and of the bytes of Connection
abbrev ConnectionHolds : Option ℕ → List ℕ → Type 0
ConnectionHolds o u = ((conn : ℕ) → o ≡ Some conn → (0 < conn) × AllAt (connection_holds conn) u) × (o ≡ None → u ≡ [])

kept : (lengths : Lengths) (t : List Noted) → RowsHold lengths t → ConnectionHolds (option_or (first_conn lengths.master (frames_from end_name.Master t)) None) (payload_from lengths end_name.Master state.Connection t)
kept lengths t h = grind arith

conn-by-phase : (l : ℕ) (bytes : List ℕ) → conn_in l bytes ≡ (if same_phase state.Connection (phase_of_frame bytes) then Some (frame_of l bytes).conn else None)
conn-by-phase l bytes = search rules

connection-more : (lengths : Lengths) (x : Noted) (t : List Noted) → IsInTurn lengths (before lengths t) x → RowsHold lengths t
    → ConnectionHolds (first_conn lengths.master (frames_from end_name.Master (x ∷ t))) (payload_from lengths end_name.Master state.Connection (x ∷ t))
connection-more lengths x t h rows = go (same_end end_name.Master x.from) refl
  where
    f : Frame
    f = frame_of lengths.master x.frame

    u : List ℕ
    u = payload_from lengths end_name.Master state.Connection t

    first : Option ℕ
    first = first_conn lengths.master (frames_from end_name.Master t)

    -- a frame of Connection brings more bytes
    brings : IsFrom lengths t end_name.Master x → same_phase state.Connection (phase_of_frame x.frame) ≡ true → ConnectionHolds (option_or first (Some f.conn)) (u ++ take (trace_piece_len lengths) f.load)
    brings from is =
        subst (λ (o : Option ℕ). ConnectionHolds o (u ++ take (trace_piece_len lengths) f.load)) (sym (conn-now first f.conn row)) (
          λ conn e. subst (λ (n : ℕ). (0 < n) × AllAt (connection_holds n) (u ++ take (trace_piece_len lengths) f.load)) (same_Some f.conn conn e) (both.0, more_hold (connection_holds f.conn) u f.load (trace_piece_len lengths) both.1 (own_bytes lengths t end_name.Master state.Connection x tt from of-phase)),
          λ e. absurd (cc e),
        )
      where
        of-phase : phase_of_frame x.frame ≡ state.Connection
        of-phase = state_is state.Connection (phase_of_frame x.frame) is

        row : is_slave_conn first f.conn ≡ true
        row = ap (λ (p : State). conn_holds p first f.conn) (sym (due_is lengths t end_name.Master x from ∙ of-phase)) ∙ from.right.conn

        known : (o : Option ℕ) → first ≡ o → (0 < f.conn) × AllAt (connection_holds f.conn) u
        known None e = (first-some f.conn (ap (λ (o : Option ℕ). is_slave_conn o f.conn) (sym e) ∙ row), λ i within. absurd (omega (arith, within, ap (length {A = ℕ}) (rows.unconnected e))))
        known (Some n) e = rows.connection f.conn (e ∙ ap Some (sym (eqb-true f.conn n (ap (λ (o : Option ℕ). is_slave_conn o f.conn) (sym e) ∙ row))))

        both : (0 < f.conn) × AllAt (connection_holds f.conn) u
        both = known first refl

    by-phase : IsFrom lengths t end_name.Master x → (is : Bool) → same_phase state.Connection (phase_of_frame x.frame) ≡ is → ConnectionHolds (option_or first (if is then Some f.conn else None)) (if is then u ++ take (trace_piece_len lengths) f.load else u)
    by-phase from true is = brings from is
    by-phase from false is = kept lengths t rows

    go : (mine : Bool) → same_end end_name.Master x.from ≡ mine
        → ConnectionHolds (first_conn lengths.master (if mine then x.frame ∷ frames_from end_name.Master t else frames_from end_name.Master t))
        (carried state.Connection (trace_piece_len lengths) lengths.master (if mine then x.frame ∷ frames_from end_name.Master t else frames_from end_name.Master t))
    go false mine = (rows.connection, rows.unconnected)
    go true mine =
        subst (λ (o : Option ℕ). ConnectionHolds (option_or first o) (if same_phase state.Connection (phase_of_frame x.frame) then u ++ take (trace_piece_len lengths) f.load else u)) (sym (conn-by-phase lengths.master x.frame))
        (by-phase (is_from lengths t end_name.Master x mine h) (same_phase state.Connection (phase_of_frame x.frame)) refl)

-- as many bytes as a piece has come with a frame of Session
pub piece_long : (lengths : Lengths) (which : End) (x : Noted) (u : List ℕ) (is : Bool) → length (frame_of (length_of lengths which) x.frame).load ≡ length_of lengths which
    → length (if is then u ++ take (trace_piece_len lengths) (frame_of (length_of lengths which) x.frame).load else u) ≡ length u + (if is then trace_piece_len lengths else 0)
piece_long lengths which x u true long =
    let f : Frame = frame_of (length_of lengths which) x.frame in
    omega (arith, length-append u (take (trace_piece_len lengths) f.load), length-take (trace_piece_len lengths) f.load, long, piece_fits lengths which)
piece_long lengths which x u false long = omega arith

even-more : (lengths : Lengths) (x : Noted) (t : List Noted) (at : End) → turn t ≡ at → x.from ≡ at → IsFrom lengths t at x → Even lengths t at → Even lengths (x ∷ t) (peer at)
even-more lengths x t at h k l m = search (rules, whole, piece_long, due_is)

-- the rows hold of the payloads of a trace
rows-more : (lengths : Lengths) (x : Noted) (t : List Noted) → IsInTurn lengths (before lengths t) x → RowsHold lengths t → RowsHold lengths (x ∷ t)
rows-more lengths x t h k = search (rules, connection-more, ids-more, parameters-more, even-more)

pub rows_hold : (lengths : Lengths) (t : List Noted) → AllInTurn lengths t → RowsHold lengths t
rows_hold lengths [] h = record {
  session = λ i within. absurd (omega (arith, within));
  connection = λ conn e. absurd (cc e);
  unconnected = λ e. refl;
  parameters = λ i within. absurd (omega (arith, within));
  slave = λ i within. absurd (omega (arith, within));
  even = refl;
}
rows_hold lengths (x ∷ t) h = rows-more lengths x t h.0 (rows_hold lengths t h.1)
