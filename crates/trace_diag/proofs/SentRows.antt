-- A frame that an end sends in its turn is as it must be, with the CRCs of its chain.
use Rattle.trace_diag.proofs.Common.{Before, Command, End, Frame, Lengths, MasterSettings, Partner, Profile, State, all_zero, chain_at, command_byte, command_of, conn_after, conn_holds, connection_holds, connection_payload, crcs_due, eq-eqb, eqb-true, first_differing, first_failing, front, id_holds, is_of, is_reset, length_of, padded, parameter_holds, parameter_payload, pay, payload_holds, phase_of, piece, piece_holds, trace_piece_len, piece_short, reset_crcs, same_phase, sealed_by, session_payload, some_width, take_padded, width, wrong_byte, wrong_in_echo, wrong_in_piece}
use Rattle.std.proofs.Common.{◌≡◌, ℕ, suc, ◌+◌, ◌*◌, ◌<◌, ◌≤◌, ◌==◌, List, [], ◌∷◌, ◌++◌, ◌&&◌, length, take, replicate, Bool, true, false, Option, None, refl, sym, ap, ap₂, subst, ◌∙◌, arith, rules}
use Rattle.fsoe_base.specs.declared.command.Command.TheVariants as command
use Rattle.fsoe_base.specs.declared.command.End.TheVariants as end_name
use Rattle.fsoe_base.specs.declared.command.State.TheVariants as state
use Rattle.param_load.specs.declared.profile.Profile.TheVariants as profile
use Rattle.trace_diag.proofs.NoField.{IsRight}
use Rattle.trace_diag.proofs.NoneApplies.{all_hold, at, same_none}
use Rattle.trace_diag.proofs.PieceRows.{at_followed, at_piece, at_six, at_zeros, connection_row, id_row, parameter_row, piece_rows}

pub same_state : (p : State) → same_phase p p ≡ true
same_state p = grind arith

pub state_is : (p q : State) → same_phase p q ≡ true → q ≡ p
state_is p q h = grind arith

-- settings of a master in profile One, with as many application parameters as there may be
pub record IsPlain (ms : MasterSettings) : Type 0 where
  pub one : ms.profile ≡ profile.One
  pub most : length ms.app ≤ 512

-- the frames of a handshake that carry a piece of their end's own payload
abbrev pub CarriesOwn : End → State → Type 0
CarriesOwn which state.Session = Unit {0}
CarriesOwn end_name.Master state.Connection = Unit {0}
CarriesOwn end_name.Master state.Parameter = Unit {0}
CarriesOwn which phase = ⊥

-- and those that repeat the master's
abbrev pub Echoes : End → State → Type 0
Echoes end_name.Slave state.Connection = Unit {0}
Echoes end_name.Slave state.Parameter = Unit {0}
Echoes which phase = ⊥

-- that payload, by the settings
abbrev pub payload_of : (ms : MasterSettings) → Partner ms → End → State → List ℕ
payload_of ms r end_name.Master phase = pay ms ms.nonce phase
payload_of ms r end_name.Slave phase = session_payload r.slave.nonce ms.profile

-- safe data with the next piece of it
pub record HasPiece (ms : MasterSettings) (r : Partner ms) (which : End) (phase : State) (k : Before) (load : List ℕ) : Type 0 where
  -- the pieces that came before
  pub before : ℕ
  pub place : k.place ≡ before * width ms
  pub is : load ≡ padded (piece (payload_of ms r which phase) (width ms) (suc before)) (length_of ms.lengths which)
  pub parameters : phase ≡ state.Parameter → k.parameters ≡ take 6 (front (payload_of ms r which phase) (width ms) before)

-- what the rows leave open of a frame where no Connection frame came before: the connection id of the first
abbrev pub IsFirst : MasterSettings → End → State → ℕ → Type 0
IsFirst ms which state.Reset n = Unit {0}
IsFirst ms which state.Session n = Unit {0}
IsFirst ms end_name.Master state.Connection n = n ≡ ms.conn
IsFirst ms which phase n = ⊥

-- the connection id and the zeros of a session's frame with this command, after so many frames of Connection
pub record Suits (ms : MasterSettings) (c : Command) (b conn : ℕ) (load : List ℕ) : Type 0 where
  pub holds : conn_holds (phase_of c) (conn_after ms.conn b) conn ≡ true
  pub connected : phase_of c ≡ state.Connection → conn ≡ ms.conn
  pub zeros : c ≡ command.FailSafeData → all_zero load ≡ true

-- a frame that an end may send next is as it must be, and has what the rows leave open by the settings
pub record IsNext (ms : MasterSettings) (r : Partner ms) (k : Before) (which : End) (f : Frame) : Type 0 where
  pub right : IsRight (width ms) k which f
  pub first : k.conn ≡ None → IsFirst ms which k.due f.conn
  pub own : CarriesOwn which k.due → HasPiece ms r which k.due k f.load

-- the bytes of that piece are those of the payload
pub piece_at : (ms : MasterSettings) (r : Partner ms) (which : End) (phase : State) (k : Before) (load : List ℕ) (i : ℕ) → HasPiece ms r which phase k load → i < width ms → at load i ≡ at (payload_of ms r which phase) (k.place + i)
piece_at ms r which phase k load i h within =
    let p : List ℕ = payload_of ms r which phase in
    ap (λ (load : List ℕ). at load i) h.is
    ∙ (at_followed (piece p (width ms) (suc h.before)) _ i ∙ (at_piece p (width ms) h.before i within ∙ ap (λ (from : ℕ). at p (from + i)) (sym h.place)))

-- the bytes of the payloads of settings may stand where they stand
payload-row : (ms : MasterSettings) (r : Partner ms) (which : End) (phase : State) (conn : ℕ) (u : List ℕ) (i : ℕ) → CarriesOwn which phase → IsPlain ms → (phase ≡ state.Connection → conn ≡ ms.conn)
    → (phase ≡ state.Parameter → (j : ℕ) → j < 6 → j ≤ i → at u j ≡ at (payload_of ms r which phase) j) → payload_holds phase conn u i (at (payload_of ms r which phase) i) ≡ true
payload-row ms r end_name.Master state.Session conn u i own plain is came = ap (λ (p : Profile). id_holds i (at (session_payload ms.nonce p) i)) plain.one ∙ id_row ms.nonce i
payload-row ms r end_name.Slave state.Session conn u i own plain is came = ap (λ (p : Profile). id_holds i (at (session_payload r.slave.nonce p) i)) plain.one ∙ id_row r.slave.nonce i
payload-row ms r end_name.Master state.Connection conn u i own plain is came =
    ap (λ (n : ℕ). connection_holds n i (at (connection_payload ms.conn ms.address) i)) (is refl) ∙ connection_row ms.conn ms.address i
payload-row ms r end_name.Master state.Parameter conn u i own plain is came =
    ap (λ (p : Profile). parameter_holds u i (at (parameter_payload ms.watchdog p ms.app) i)) plain.one
    ∙ parameter_row ms.watchdog ms.app u i ms.some_watchdog plain.most (λ j six upto. came refl j six upto ∙ ap (λ (p : Profile). at (parameter_payload ms.watchdog p ms.app) j) plain.one)
payload-row ms r _ _ conn u i own plain is came = absurd own

pub piece_fits : (lengths : Lengths) (which : End) → trace_piece_len lengths ≤ length_of lengths which
piece_fits lengths which = grind arith

own-right : (ms : MasterSettings) (r : Partner ms) (which : End) (phase : State) (k : Before) (f : Frame) → CarriesOwn which phase → IsPlain ms → (phase ≡ state.Connection → f.conn ≡ ms.conn) → HasPiece ms r which phase k f.load
    → wrong_in_piece (width ms) k phase f ≡ None
own-right ms r which phase k f own plain conn h =
    ap₂ (λ (from : ℕ) (load : List ℕ). first_failing (piece_holds w (payload_holds phase f.conn (k.parameters ++ take w load)) from) 0 load) h.place h.is
    ∙ piece_rows p w h.before (length_of ms.lengths which) (payload_holds phase f.conn u)
    (λ i within. payload-row ms r which phase f.conn u (h.before * w + i) own plain conn (λ is j six upto. let more : suc h.before * w ≡ h.before * w + w = omega arith in ap (λ (u : List ℕ). at u j) (u-is is) ∙ at_six p w h.before j (some_width ms) six (omega (arith, within, upto, more))))
  where
    w : ℕ
    w = width ms

    p : List ℕ
    p = payload_of ms r which phase

    u : List ℕ
    u = k.parameters ++ take w (padded (piece p w (suc h.before)) (length_of ms.lengths which))

    u-is : phase ≡ state.Parameter → u ≡ take 6 (front p w h.before) ++ padded (piece p w (suc h.before)) w
    u-is is = ap₂ (λ (a b : List ℕ). a ++ b) (h.parameters is) (take_padded (piece p w (suc h.before)) w (length_of ms.lengths which) (piece_short p w (suc h.before)) (piece_fits ms.lengths which))

-- an answer repeats a piece
echo-right : (k : Before) (f : Frame) → f.load ≡ padded k.piece (length f.load) → wrong_in_echo k f ≡ None
echo-right k f e = ap (λ (due : List ℕ). first_differing 0 f.load due) (sym e) ∙ same_none 0 f.load

-- zeros
zeros-are : (bytes : List ℕ) → all_zero bytes ≡ true → bytes ≡ replicate (length bytes) 0
zeros-are [] h = refl
zeros-are (b ∷ bytes) h = let both = split (b == 0) (all_zero bytes) h in ap₂ (λ (x : ℕ) (xs : List ℕ). x ∷ xs) (eqb-true b 0 both.0) (zeros-are bytes both.1)
  where
    split : (s t : Bool) → (s && t) ≡ true → (s ≡ true) × (t ≡ true)
    split s t h = grind arith

-- no data byte is wrong
bytes-right : (ms : MasterSettings) (r : Partner ms) (which : End) (k : Before) (c : Command) (f : Frame) → is_reset c ≡ false → IsPlain ms → f.cmd ≡ command_byte c → (phase_of c ≡ state.Connection → f.conn ≡ ms.conn)
    → (CarriesOwn which (phase_of c) → HasPiece ms r which (phase_of c) k f.load) → (Echoes which (phase_of c) → f.load ≡ padded k.piece (length f.load)) → (c ≡ command.FailSafeData → all_zero f.load ≡ true)
    → wrong_byte (width ms) k which (phase_of c) f ≡ None
bytes-right ms r which k c f session plain cmd conn own echo zeros = search (rules, own-right, echo-right, zeros-are, same_none)

-- the command is one of its phase
of-phase : (c : Command) → is_of (phase_of c) (command_of (command_byte c)) ≡ true
of-phase c = grind arith

crcs-right : (k : Before) (which : End) (c : Command) (f : Frame) → is_reset c ≡ false → f.crcs ≡ (sealed_by (chain_at which k.chain) f.conn f.cmd f.load).crcs → f.crcs ≡ crcs_due (phase_of c) k.chain which f
crcs-right k which c f h l = grind arith

-- the next frame of a session
pub session_next : (ms : MasterSettings) (r : Partner ms) (which : End) (k : Before) (c : Command) (b conn : ℕ) (load : List ℕ) → is_reset c ≡ false → IsPlain ms → k.due ≡ phase_of c → k.conn ≡ conn_after ms.conn b → Suits ms c b conn load
    → (k.conn ≡ None → IsFirst ms which (phase_of c) conn) → (CarriesOwn which (phase_of c) → HasPiece ms r which (phase_of c) k load) → (Echoes which (phase_of c) → load ≡ padded k.piece (length load))
    → IsNext ms r k which (sealed_by (chain_at which k.chain) conn (command_byte c) load)
session_next ms r which k c b conn load session plain due known suits first own echo = record {
  right = record {
    command = ap (λ (p : State). is_of p (command_of (command_byte c))) due ∙ of-phase c;
    conn = ap₂ (λ (p : State) (first : Option ℕ). conn_holds p first conn) due known ∙ suits.holds;
    bytes = ap (λ (p : State). wrong_byte (width ms) k which p f) due ∙ bytes-right ms r which k c f session plain refl suits.connected own echo suits.zeros;
    crcs = subst (λ (p : State). f.crcs ≡ crcs_due p k.chain which f) (sym due) (crcs-right k which c f session refl);
  };
  first = λ none. subst (λ (p : State). IsFirst ms which p conn) (sym due) (first none);
  own = subst (λ (p : State). CarriesOwn which p → HasPiece ms r which p k load) (sym due) own;
}
  where
    f : Frame
    f = sealed_by (chain_at which k.chain) conn (command_byte c) load

-- in Reset each byte has to be 0, wherever the piece stands
pub zero_byte : (c from conn i b : ℕ) (u : List ℕ) → piece_holds c (payload_holds state.Reset conn u) from i b ≡ (b == 0)
zero_byte c from conn i b u = grind arith

pub in_reset : (c : ℕ) (k : Before) (which : End) (f : Frame) → wrong_byte c k which state.Reset f ≡ wrong_in_piece c k state.Reset f
in_reset c k which f = grind arith

-- a Reset frame with the code 0
pub reset_next : (ms : MasterSettings) (r : Partner ms) (which : End) (k : Before) (l : ℕ) → k.due ≡ state.Reset
    → IsNext ms r k which (record { cmd = 0x2A; load = replicate l 0; crcs = reset_crcs (replicate l 0); conn = 0 })
reset_next ms r which k l due = record {
  right = record {
    command = ap (λ (p : State). is_of p (command_of 0x2A)) due;
    conn = ap (λ (p : State). conn_holds p k.conn 0) due;
    bytes = ap (λ (p : State). wrong_byte (width ms) k which p f) due ∙ (in_reset (width ms) k which f ∙ all_hold _ 0 f.load (λ i. zero_byte (width ms) k.place 0 (0 + i) (at f.load i) (k.parameters ++ take (width ms) f.load) ∙ eq-eqb (at f.load i) 0 (at_zeros l i)));
    crcs = subst (λ (p : State). f.crcs ≡ crcs_due p k.chain which f) (sym due) refl;
  };
  first = λ none. subst (λ (p : State). IsFirst ms which p 0) (sym due) tt;
  own = λ own. absurd (subst (λ (p : State). CarriesOwn which p) due own);
}
  where
    f : Frame
    f = record { cmd = 0x2A; load = replicate l 0; crcs = reset_crcs (replicate l 0); conn = 0 }
