-- The frame that the end in turn sends after a trace: a Reset frame, or the next one of its session. It is as it must
-- be, and has what the rows leave open by the settings.
use Rattle.trace_diag.proofs.Common.{Both, Carries, Chain, Chained, Command, End, Frame, IsDown, IsUp, Lengths, MasterSettings, Noted, OfMaster, Partner, Replies, Spot, State, Turn, before, chain_of, command_byte, conn_after, connection_pieces, count_crcs, count_groups, count_in, first_conn, frame_len, frame_of, frames_from, front, front_long, phase_following, halves, is_length, is_reset_frame, length-replicate, length_of, newest_crc, newest_piece, padded, padded_twice, parameter_pieces, pay, payload_from, phase_due, phase_from, phase_of, phase_of_frame, phase_sent, piece, piece_asked, piece_fits, piece_place, piece_short, reset_crcs, reset_frame, reset_load, sealed_by, session_payload, session_pieces, slave_of, some_connection, turn, turned, whole, width}
use Rattle.std.proofs.Common.{◌≡◌, ℕ, ◌<◌, ◌≤◌, List, [], ◌∷◌, length, take, replicate, None, IsTrue, refl, sym, ap, ap₂, subst, ◌∙◌, arith, rules}
use Rattle.fsoe_base.specs.declared.command.Command.TheVariants as command
use Rattle.fsoe_base.specs.declared.command.End.TheVariants as end_name
use Rattle.fsoe_base.specs.declared.command.State.TheVariants as state
use Rattle.seq_chain.specs.Sealing as sealing
use Rattle.trace_diag.proofs.Due.{due_next, front_in, pieces_in}
use Rattle.trace_diag.proofs.Frames.{read_as}
use Rattle.trace_diag.proofs.PayloadBytes.{valid_at}
use Rattle.trace_diag.proofs.PayloadRows.{master_place}
use Rattle.trace_diag.proofs.SentRows.{reset_next, session_next, CarriesOwn, Echoes, HasPiece, IsFirst, IsNext, IsPlain, Suits}
use Rattle.trace_diag.proofs.Tells.{counts, next_piece, sent_counts, Tells}

-- the frame that an end sends after a trace
pub record NextFrame (ms : MasterSettings) (r : Partner ms) (t : List Noted) (g : List ℕ) (which : End) : Type 0 where
  pub long : length g ≡ frame_len (length_of ms.lengths which)
  pub next : IsNext ms r (before ms.lengths t) which (frame_of (length_of ms.lengths which) g)

-- a Reset frame with the code 0
load-long : (l : ℕ) → length (reset_load 0 l) ≡ l
load-long l = search (rules, length-replicate)

load-zeros : (l : ℕ) → reset_load 0 l ≡ replicate l 0
load-zeros l = grind arith

reset-parts : (l : ℕ) → IsTrue (is_length l) → frame_of l (reset_frame 0 l) ≡ record { cmd = 0x2A; load = reset_load 0 l; crcs = reset_crcs (reset_load 0 l); conn = 0 }
reset-parts l h = search (rules, read_as, load-long, count_crcs, count_groups, halves)

reset-long : (ms : MasterSettings) (r : Partner ms) (which : End) → length (reset_frame 0 (length_of ms.lengths which)) ≡ frame_len (length_of ms.lengths which)
reset-long ms r end_name.Master = (is_reset_frame (slave_of ms r) [] ms.lengths.valid_master refl).is_read.has_length
reset-long ms r end_name.Slave = (is_reset_frame (OfMaster ms) [] ms.lengths.valid_slave refl).is_read.has_length

pub reset_is_next : (ms : MasterSettings) (r : Partner ms) (t : List Noted) (which : End) → phase_due ms.lengths t ≡ state.Reset → NextFrame ms r t (reset_frame 0 (length_of ms.lengths which)) which
reset_is_next ms r t which due =
    let l : ℕ = length_of ms.lengths which in
    record {
      long = reset-long ms r which;
      next = subst (λ (f : Frame). IsNext ms r (before ms.lengths t) which f)
          (sym (reset-parts l (valid_at ms.lengths which) ∙ ap (λ (load : List ℕ). record { cmd = 0x2A; load = load; crcs = reset_crcs load; conn = 0 }) (load-zeros l))) (reset_next ms r which (before ms.lengths t) l due);
    }

-- the phase after one of which as much has come
goes-same : (p : State) (u v : List ℕ) → (CarriesOwn end_name.Master p → u ≡ v) → phase_following p u ≡ phase_following p v
goes-same p u v h = search rules

carried-suits : (ms : MasterSettings) (id : ℕ) (c : Command) (a b d conn : ℕ) (load : List ℕ) → Carries ms id c a b d conn load → Suits ms c b conn load
carried-suits ms id c a b d conn load h = record { holds = search rules; connected = λ is. search rules; zeros = λ is. search rules }

carried-first : (ms : MasterSettings) (id n n' n'' : ℕ) (c : Command) (p : State) (a b d k conn : ℕ) (load : List ℕ) → 0 < n' → Turn n n' n'' c p a b d k → Carries ms id c a b d conn load → conn_after ms.conn b ≡ None → IsFirst ms end_name.Master (phase_of c) conn
carried-first ms id n n' n'' c p a b d k conn load some turn h none = grind arith

-- the master's frame that is on its way is the next one
pub from_down : (ms : MasterSettings) (r : Partner ms) (y : Noted) (t : List Noted) (x x' : Both) (h : IsDown ms r x') → IsPlain ms → h.id ≡ ms.nonce → turn (y ∷ t) ≡ end_name.Master → Tells ms (y ∷ t) end_name.Master x
    → x'.master.sent ≡ h.frame ∷ x.master.sent → x'.slave ≡ x.slave → x'.phase ≡ phase_sent x.master.sent → NextFrame ms r (y ∷ t) h.frame end_name.Master
from_down ms r y t x x' h plain id turned-to told more-sent same phase = record {
  long = h.way.long;
  next = subst (λ (f : Frame). IsNext ms r (before ms.lengths (y ∷ t)) end_name.Master f) (sym frame)
      (session_next ms r end_name.Master (before ms.lengths (y ∷ t)) h.command h.b h.conn h.load h.in_session plain due known (carried-suits ms h.id h.command h.a h.b h.d h.conn h.load h.carries)
      (λ none. carried-first ms h.id (session_pieces ms) (connection_pieces ms) (parameter_pieces ms) h.command h.p h.a h.b h.d h.k h.conn h.load (some_connection ms) h.turn h.carries (sym known ∙ none))
      own (λ echo. absurd echo));
}
  where
    frame : frame_of ms.lengths.master h.frame ≡ sealed_by (chain_of ms.lengths (y ∷ t)) h.conn (command_byte h.command) h.load
    frame =
        h.way.frame
        ∙ (ap (λ (u : Chained). sealing.sealed (newest_crc ms.lengths.slave u.sent) u.taken_link h.conn (command_byte h.command) h.load) same
        ∙ (ap (λ (n : ℕ). sealing.sealed n x.slave.taken_link h.conn (command_byte h.command) h.load) (sym told.crc)
        ∙ ap (λ (chain : Chain). sealed_by (turned chain) h.conn (command_byte h.command) h.load) (sym told.chain)))

    counted : (p : State) → CarriesOwn end_name.Master p → count_in p x.master.sent ≡ pieces_in p h.a h.b h.d
    counted = counts ms r x' h x.master.sent more-sent

    known : first_conn ms.lengths.master (frames_from end_name.Master (y ∷ t)) ≡ conn_after ms.conn h.b
    known = told.conn ∙ ap (conn_after ms.conn) (counted state.Connection tt)

    due : phase_due ms.lengths (y ∷ t) ≡ phase_of h.command
    due =
        ap₂ (λ (e : End) (p : State). phase_from ms.lengths (y ∷ t) e p) turned-to (told.phase ∙ (sym phase ∙ h.slave.phase))
        ∙ (goes-same h.p (payload_from ms.lengths end_name.Master h.p (y ∷ t)) (front_in ms h.p h.a h.b h.d) (λ own. told.payload h.p own ∙ ap (front (pay ms ms.nonce h.p) (width ms)) (counted h.p own))
        ∙ due_next ms h.command h.p h.a h.b h.d h.k plain h.turn)

    own : CarriesOwn end_name.Master (phase_of h.command) → HasPiece ms r end_name.Master (phase_of h.command) (before ms.lengths (y ∷ t)) h.load
    own owns = record {
      before = count_in (phase_of h.command) x.master.sent;
      place = ap₂ (λ (p : State) (e : End). piece_place ms.lengths (y ∷ t) p e) due turned-to
          ∙ (master_place ms.lengths (y ∷ t) (phase_of h.command) owns ∙ (ap (length {A = ℕ}) (told.payload (phase_of h.command) owns) ∙ front_long (pay ms ms.nonce (phase_of h.command)) (width ms) (count_in (phase_of h.command) x.master.sent)));
      is = next_piece ms r x' h x.master.sent id more-sent owns;
      parameters = λ is. subst (λ (p : State). (before ms.lengths (y ∷ t)).parameters ≡ take 6 (front (pay ms ms.nonce p) (width ms) (count_in p x.master.sent))) (sym is) (ap (take 6) (told.payload state.Parameter tt));
    }

replied-suits : (ms : MasterSettings) (id : ℕ) (c : Command) (a b d conn : ℕ) (load : List ℕ) → Replies ms id c a b d conn load → Suits ms c b conn load
replied-suits ms id c a b d conn load h = record { holds = search rules; connected = λ is. search rules; zeros = λ is. search rules }

replied-first : (ms : MasterSettings) (n n' n'' : ℕ) (p : State) (a b d m conn : ℕ) → 0 < n' → Spot n n' n'' p a b d m → (p ≡ state.Connection → 0 < b) → conn_after ms.conn b ≡ None → IsFirst ms end_name.Slave p conn
replied-first ms n n' n'' p a b d m conn some spot connected none = grind arith

replied-piece : (ms : MasterSettings) (id : ℕ) (c : Command) (a b d conn : ℕ) (load : List ℕ) → Replies ms id c a b d conn load → Echoes end_name.Slave (phase_of c)
    → load ≡ padded (piece (pay ms ms.nonce (phase_of c)) (width ms) (pieces_in (phase_of c) a b d)) ms.lengths.slave
replied-piece ms id c a b d conn load h echo = search rules

echo-own : (p : State) → Echoes end_name.Slave p → CarriesOwn end_name.Master p
echo-own p h = grind arith

asked-is : (lengths : Lengths) (t : List Noted) (p : State) → Echoes end_name.Slave p → piece_asked lengths t p end_name.Slave ≡ newest_piece lengths t
asked-is lengths t p h = grind arith

repeated : (q load asked : List ℕ) (w l : ℕ) → length q ≤ w → w ≤ l → length load ≡ l → asked ≡ padded q w → load ≡ padded q l → load ≡ padded asked (length load)
repeated q load asked w l h k m n o = search (rules, padded_twice)

id-command : (c : Command) → CarriesOwn end_name.Slave (phase_of c) → c ≡ command.Session
id-command c h = grind arith

some-connected : (frames : List (List ℕ)) → phase_sent frames ≡ state.Connection → 0 < count_in state.Connection frames
some-connected frames h = grind arith

-- the slave's answer that is on its way is the next one
pub from_up : (ms : MasterSettings) (r : Partner ms) (y : Noted) (t : List Noted) (x x' : Both) (h : IsUp ms r x') → IsPlain ms → turn (y ∷ t) ≡ end_name.Slave → Tells ms (y ∷ t) end_name.Slave x → x'.master ≡ x.master
    → (h.command ≡ command.Session → (frame_of ms.lengths.slave h.frame).load ≡ padded (piece (session_payload r.slave.nonce ms.profile) (width ms) h.a) ms.lengths.slave) → NextFrame ms r (y ∷ t) h.frame end_name.Slave
from_up ms r y t x x' h plain turned-to told same id-is = record {
  long = h.way.long;
  next = subst (λ (f : Frame). IsNext ms r (before ms.lengths (y ∷ t)) end_name.Slave f) (sym frame)
      (session_next ms r end_name.Slave (before ms.lengths (y ∷ t)) h.command h.b h.conn h.load h.in_session plain due known (replied-suits ms h.id h.command h.a h.b h.d h.conn h.load h.replies)
      (λ none. replied-first ms (session_pieces ms) (connection_pieces ms) (parameter_pieces ms) (phase_of h.command) h.a h.b h.d h.k h.conn (some_connection ms) h.spot
      (λ is. subst (λ (n : ℕ). 0 < n) (counted state.Connection tt) (some-connected x.master.sent (phase-is ∙ is))) (sym known ∙ none))
      own echo);
}
  where
    frame : frame_of ms.lengths.slave h.frame ≡ sealed_by (turned (chain_of ms.lengths (y ∷ t))) h.conn (command_byte h.command) h.load
    frame =
        h.way.frame
        ∙ (ap (λ (u : Chained). sealing.sealed (newest_crc ms.lengths.master u.sent) u.taken_link h.conn (command_byte h.command) h.load) same
        ∙ (ap (λ (n : ℕ). sealing.sealed n x.master.taken_link h.conn (command_byte h.command) h.load) (sym told.crc)
        ∙ ap (λ (chain : Chain). sealed_by (turned chain) h.conn (command_byte h.command) h.load) (sym told.chain)))

    phase-is : phase_sent x.master.sent ≡ phase_of h.command
    phase-is = ap (λ (u : Chained). phase_sent u.sent) (sym same) ∙ h.master.phase

    counted : (p : State) → CarriesOwn end_name.Master p → count_in p x.master.sent ≡ pieces_in p h.a h.b h.d
    counted p own = ap (λ (u : Chained). count_in p u.sent) (sym same) ∙ sent_counts h.id x'.master.sent x'.id (phase_of h.command) h.a h.b h.d h.master p own

    known : first_conn ms.lengths.master (frames_from end_name.Master (y ∷ t)) ≡ conn_after ms.conn h.b
    known = told.conn ∙ ap (conn_after ms.conn) (counted state.Connection tt)

    due : phase_due ms.lengths (y ∷ t) ≡ phase_of h.command
    due = ap (λ (e : End). phase_from ms.lengths (y ∷ t) e (phase_of_frame y.frame)) turned-to ∙ (told.phase ∙ phase-is)

    own : CarriesOwn end_name.Slave (phase_of h.command) → HasPiece ms r end_name.Slave (phase_of h.command) (before ms.lengths (y ∷ t)) h.load
    own owns =
        let is : h.command ≡ command.Session = id-command h.command owns in
        record {
          before = told.newest.before;
          place = ap₂ (λ (p : State) (e : End). piece_place ms.lengths (y ∷ t) p e) (due ∙ ap phase_of is) turned-to ∙ told.newest.place;
          is = ap (λ (f : Frame). f.load) (sym h.way.frame)
              ∙ (id-is is ∙ ap (λ (n : ℕ). padded (piece (session_payload r.slave.nonce ms.profile) (width ms) n) ms.lengths.slave) (sym (counted state.Session tt) ∙ told.newest.one_more (phase-is ∙ ap phase_of is)));
          parameters = λ other. (let both : state.Session ≡ state.Parameter = sym (ap phase_of is) ∙ other in cc);
        }

    echo : Echoes end_name.Slave (phase_of h.command) → h.load ≡ padded (before ms.lengths (y ∷ t)).piece (length h.load)
    echo echoes =
        let q : List ℕ = piece (pay ms ms.nonce (phase_of h.command)) (width ms) (pieces_in (phase_of h.command) h.a h.b h.d) in
        let asked : (before ms.lengths (y ∷ t)).piece ≡ padded q (width ms) =
        ap₂ (λ (p : State) (e : End). piece_asked ms.lengths (y ∷ t) p e) due turned-to
        ∙ (asked-is ms.lengths (y ∷ t) (phase_of h.command) echoes ∙ repeats (echo-own (phase_of h.command) echoes)) in
        repeated q h.load (before ms.lengths (y ∷ t)).piece (width ms) ms.lengths.slave (piece_short (pay ms ms.nonce (phase_of h.command)) (width ms) (pieces_in (phase_of h.command) h.a h.b h.d)) (piece_fits (slave_of ms r))
        (ap (λ (f : Frame). length f.load) (sym h.way.frame) ∙ (whole ms.lengths.slave h.frame ms.lengths.valid_slave h.way.long).load) asked (replied-piece ms h.id h.command h.a h.b h.d h.conn h.load h.replies echoes)
      where
        repeats : CarriesOwn end_name.Master (phase_of h.command) → newest_piece ms.lengths (y ∷ t) ≡ padded (piece (pay ms ms.nonce (phase_of h.command)) (width ms) (pieces_in (phase_of h.command) h.a h.b h.d)) (width ms)
        repeats owns =
            subst (λ (p : State). CarriesOwn end_name.Master p → newest_piece ms.lengths (y ∷ t) ≡ padded (piece (pay ms ms.nonce p) (width ms) (count_in p x.master.sent)) (width ms)) phase-is told.newest.repeats owns
            ∙ ap (λ (n : ℕ). padded (piece (pay ms ms.nonce (phase_of h.command)) (width ms) n) (width ms)) (counted (phase_of h.command) owns)
