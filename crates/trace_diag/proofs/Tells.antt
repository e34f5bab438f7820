-- What a trace tells of the sessions of both ends, where it is what they sent: their chains, and how far each payload
-- of the master came.
use Rattle.trace_diag.proofs.Common.{Both, Carries, Chain, Chained, Command, End, Frame, IsAsked, IsDown, IsReplied, IsUp, Lengths, MasterSettings, Noted, OfMaster, Partner, State, after_sent, after_taken, chain_at, chain_of, command_back, command_byte, conn_after, conn_in, count_in, first_conn, frame_of, frames_from, fresh, front, front_long, has_command, head_on, is_reset, length_of, more, newest_crc, newest_piece, option_or, padded, pay, payload_from, peer, phase_of, phase_of_frame, phase_of_known, phase_sent, piece, piece_fits, piece_short, same_phase, take_padded, turned, width}
use Rattle.std.proofs.Common.{◌≡◌, ℕ, suc, ◌*◌, List, [], ◌∷◌, ◌++◌, length, take, drop, Bool, true, false, Option, Some, refl, sym, ap, ap₂, subst, ◌∙◌, arith, if◌then◌else◌, rules}
use Rattle.fsoe_base.specs.declared.command.Command.TheVariants as command
use Rattle.fsoe_base.specs.declared.command.End.TheVariants as end_name
use Rattle.fsoe_base.specs.declared.command.State.TheVariants as state
use Rattle.seq_chain.specs.declared.link.Link.{Link}
use Rattle.seq_chain.specs.Numbers.{last_crc}
use Rattle.seq_chain.specs.Sealing as sealing
use Rattle.exchange_model.proofs.Honest.Turns.{HasSent}
use Rattle.trace_diag.proofs.Due.{pieces_in}
use Rattle.trace_diag.proofs.SentRows.{same_state, state_is, CarriesOwn}

-- what the chain of an end goes by, and that chain
abbrev pub chained_of : Both → End → Chained
chained_of x end_name.Master = x.master
chained_of x end_name.Slave = x.slave

abbrev pub chain_in : Chained → Chain
chain_in u = record { own = u.own_link; taken = u.taken_link }

-- the phase of the newest frame of a trace
abbrev pub head_phase : List Noted → State
head_phase [] = state.Reset
head_phase (y ∷ t) = phase_of_frame y.frame

-- where the newest frame is the master's, which sent these frames in its session: how many pieces of a session id came
-- before it, and which piece it carries
pub record TellsNewest (ms : MasterSettings) (t : List Noted) (frames : List (List ℕ)) : Type 0 where
  pub before : ℕ
  pub one_more : phase_sent frames ≡ state.Session → count_in state.Session frames ≡ suc before
  pub place : length (payload_from ms.lengths end_name.Master state.Session (drop 1 t)) ≡ before * width ms
  pub repeats : CarriesOwn end_name.Master (phase_sent frames) → newest_piece ms.lengths t ≡ padded (piece (pay ms ms.nonce (phase_sent frames)) (width ms) (count_in (phase_sent frames) frames)) (width ms)

abbrev pub TellsIfSent : End → MasterSettings → List Noted → List (List ℕ) → Type 0
TellsIfSent end_name.Master ms t frames = Unit {0}
TellsIfSent end_name.Slave ms t frames = TellsNewest ms t frames

-- a trace tells this, whose newest frame is on its way to this end
pub record Tells (ms : MasterSettings) (t : List Noted) (next : End) (x : Both) : Type 0 where
  pub chain : chain_at (peer next) (chain_of ms.lengths t) ≡ chain_in (chained_of x (peer next))
  pub crc : last_crc (chained_of x (peer next)).own_link ≡ newest_crc (length_of ms.lengths (peer next)) (chained_of x (peer next)).sent
  pub phase : head_phase t ≡ phase_sent x.master.sent
  pub payload : (phase : State) → CarriesOwn end_name.Master phase → payload_from ms.lengths end_name.Master phase t ≡ front (pay ms ms.nonce phase) (width ms) (count_in phase x.master.sent)
  pub conn : first_conn ms.lengths.master (frames_from end_name.Master t) ≡ conn_after ms.conn (count_in state.Connection x.master.sent)
  pub newest : TellsIfSent next ms t x.master.sent

-- the pieces of a payload with one more frame, which is of its phase or isn't
grown : (is : Bool) (p : List ℕ) (w n : ℕ) (u part : List ℕ) → u ≡ front p w n → (is ≡ true → part ≡ padded (piece p w (suc n)) w) → (if is then u ++ part else u) ≡ front p w (if is then suc n else n)
grown is p w n u part h k = grind arith

conn-more : (ms : MasterSettings) (id a b d conn n l : ℕ) (c : Command) (tail load : List ℕ) (first : Option ℕ) → Carries ms id c a b d conn load → first ≡ conn_after ms.conn n → (frame_of l (command_byte c ∷ tail)).conn ≡ conn
    → option_or first (conn_in l (command_byte c ∷ tail)) ≡ conn_after ms.conn (more state.Connection c n)
conn-more ms id a b d conn n l c tail load first h k m = grind arith

-- a frame by its first byte
pub phase_by : (c : Command) (f tail : List ℕ) → f ≡ command_byte c ∷ tail → phase_of_frame f ≡ phase_of c
phase_by c f tail h = ap phase_of_frame h ∙ ap phase_of_known (command_back c)

pub not_reset : (c : Command) (f tail : List ℕ) → f ≡ command_byte c ∷ tail → is_reset c ≡ false → has_command command.Reset f ≡ false
not_reset c f tail h n = ap (has_command command.Reset) h ∙ head_on c n

counted : (c : Command) (f tail : List ℕ) (frames : List (List ℕ)) (phase : State) → f ≡ command_byte c ∷ tail → count_in phase (f ∷ frames) ≡ more phase c (count_in phase frames)
counted c f tail frames phase h = ap (λ (p : State). if same_phase phase p then suc (count_in phase frames) else count_in phase frames) (phase_by c f tail h)

-- the pieces that a master sent, by their phase
pub sent_counts : (id : ℕ) (frames : List (List ℕ)) (known : Option ℕ) (p : State) (a b d : ℕ) → HasSent id frames known p a b d → (phase : State) → CarriesOwn end_name.Master phase → count_in phase frames ≡ pieces_in phase a b d
sent_counts id frames known p a b d h phase own = search rules

one-less : (phase : State) (c : Command) (n a b d : ℕ) → more phase c n ≡ pieces_in phase (more state.Session c a) (more state.Connection c b) (more state.Parameter c d) → CarriesOwn end_name.Master phase → n ≡ pieces_in phase a b d
one-less phase c n a b d h own = grind arith

-- those before its frame that is on its way
pub counts : (ms : MasterSettings) (r : Partner ms) (x' : Both) (h : IsDown ms r x') (frames : List (List ℕ)) → x'.master.sent ≡ h.frame ∷ frames → (phase : State) → CarriesOwn end_name.Master phase → count_in phase frames ≡ pieces_in phase h.a h.b h.d
counts ms r x' h frames more-sent phase own =
    one-less phase h.command (count_in phase frames) h.a h.b h.d
    (sym (counted h.command h.frame h.way.tail frames phase h.way.head) ∙ (ap (count_in phase) (sym more-sent) ∙ sent_counts h.id x'.master.sent x'.id (phase_of h.command) _ _ _ h.master phase own)) own

carried : (ms : MasterSettings) (id : ℕ) (c : Command) (a b d conn : ℕ) (load : List ℕ) → Carries ms id c a b d conn load → CarriesOwn end_name.Master (phase_of c)
    → load ≡ padded (piece (pay ms id (phase_of c)) (width ms) (suc (pieces_in (phase_of c) a b d))) ms.lengths.master
carried ms id c a b d conn load h own = search rules

-- what that carries is the next piece of its phase
pub next_piece : (ms : MasterSettings) (r : Partner ms) (x' : Both) (h : IsDown ms r x') (frames : List (List ℕ)) → h.id ≡ ms.nonce → x'.master.sent ≡ h.frame ∷ frames → CarriesOwn end_name.Master (phase_of h.command)
    → h.load ≡ padded (piece (pay ms ms.nonce (phase_of h.command)) (width ms) (suc (count_in (phase_of h.command) frames))) ms.lengths.master
next_piece ms r x' h frames id more-sent own =
    carried ms h.id h.command h.a h.b h.d h.conn h.load h.carries own
    ∙ ap₂ (λ (id n : ℕ). padded (piece (pay ms id (phase_of h.command)) (width ms) (suc n)) ms.lengths.master) id (sym (counts ms r x' h frames more-sent (phase_of h.command) own))

-- a frame of the master that is on its way, after these
pub told_down : (ms : MasterSettings) (r : Partner ms) (t : List Noted) (x x' : Both) (h : IsDown ms r x') → h.id ≡ ms.nonce → Tells ms t end_name.Master x → x'.master.sent ≡ h.frame ∷ x.master.sent → x'.slave ≡ x.slave
    → Tells ms (record { from = end_name.Master; frame = h.frame } ∷ t) end_name.Slave x'
told_down ms r t x x' h id told more-sent same = record {
  chain =
      ap (λ (b : Bool). if b then fresh else after_sent (chain_of ms.lengths t) f) (not_reset h.command h.frame h.way.tail h.way.head h.in_session)
      ∙ (ap (λ (chain : Chain). after_sent (turned chain) f) told.chain
      ∙ ap₂ (λ (own taken : Option Link). record { own = own; taken = taken })
      (ap (λ (n : ℕ). Some (sealing.noted n x.slave.taken_link f)) told.crc ∙ (ap (λ (u : Chained). Some (sealing.noted (newest_crc ms.lengths.slave u.sent) u.taken_link f)) (sym same) ∙ sym h.way.sent_link))
      (ap (λ (u : Chained). u.own_link) (sym same) ∙ h.way.answer_link));
  crc = ap last_crc h.way.sent_link ∙ sym (ap (newest_crc ms.lengths.master) h.way.newest);
  phase = sym (ap phase_sent h.way.newest);
  payload = λ phase own.
      grown (same_phase phase (phase_of_frame h.frame)) (pay ms ms.nonce phase) (width ms) (count_in phase x.master.sent) _ _ (told.payload phase own) (λ is. part phase (state_is phase (phase_of h.command) (ap (same_phase phase) (sym by-head) ∙ is)) own)
      ∙ ap (λ (frames : List (List ℕ)). front (pay ms ms.nonce phase) (width ms) (count_in phase frames)) (sym more-sent);
  conn = ap (λ (g : List ℕ). option_or (first_conn ms.lengths.master (frames_from end_name.Master t)) (conn_in ms.lengths.master g)) h.way.head
      ∙ (conn-more ms h.id h.a h.b h.d h.conn (count_in state.Connection x.master.sent) ms.lengths.master h.command h.way.tail h.load _ h.carries told.conn
      (ap (λ (g : List ℕ). (frame_of ms.lengths.master g).conn) (sym h.way.head) ∙ ap (λ (g : Frame). g.conn) h.way.frame)
      ∙ ap (conn_after ms.conn) (sym (now state.Connection)));
  newest = record {
    before = count_in state.Session x.master.sent;
    one_more = λ is. now state.Session ∙ ap (λ (p : State). if same_phase state.Session p then suc (count_in state.Session x.master.sent) else count_in state.Session x.master.sent) (sym of-command ∙ is);
    place = ap (length {A = ℕ}) (told.payload state.Session tt) ∙ front_long (pay ms ms.nonce state.Session) (width ms) (count_in state.Session x.master.sent);
    repeats = subst (λ (p : State). CarriesOwn end_name.Master p → take (width ms) f.load ≡ padded (piece (pay ms ms.nonce p) (width ms) (count_in p x'.master.sent)) (width ms)) (sym of-command)
        (λ own. part (phase_of h.command) refl own
        ∙ ap (λ (n : ℕ). padded (piece (pay ms ms.nonce (phase_of h.command)) (width ms) n) (width ms))
        (sym (now (phase_of h.command) ∙ ap (λ (b : Bool). if b then suc (count_in (phase_of h.command) x.master.sent) else count_in (phase_of h.command) x.master.sent) (same_state (phase_of h.command)))));
  };
}
  where
    f : Frame
    f = frame_of ms.lengths.master h.frame

    by-head : phase_of_frame h.frame ≡ phase_of h.command
    by-head = phase_by h.command h.frame h.way.tail h.way.head

    of-command : phase_sent x'.master.sent ≡ phase_of h.command
    of-command = ap phase_sent h.way.newest ∙ by-head

    now : (phase : State) → count_in phase x'.master.sent ≡ more phase h.command (count_in phase x.master.sent)
    now phase = ap (count_in phase) more-sent ∙ counted h.command h.frame h.way.tail x.master.sent phase h.way.head

    part : (phase : State) → phase_of h.command ≡ phase → CarriesOwn end_name.Master phase → take (width ms) f.load ≡ padded (piece (pay ms ms.nonce phase) (width ms) (suc (count_in phase x.master.sent))) (width ms)
    part phase is = subst (λ (p : State). CarriesOwn end_name.Master p → take (width ms) f.load ≡ padded (piece (pay ms ms.nonce p) (width ms) (suc (count_in p x.master.sent))) (width ms)) is
        (λ own. ap (λ (g : Frame). take (width ms) g.load) h.way.frame ∙ (ap (take (width ms)) (next_piece ms r x' h x.master.sent id more-sent own) ∙ take_padded _ (width ms) ms.lengths.master (piece_short _ (width ms) _) (piece_fits (OfMaster ms))))

-- an answer of the slave that is on its way, after these
pub told_up : (ms : MasterSettings) (r : Partner ms) (t : List Noted) (x x' : Both) (h : IsUp ms r x') → Tells ms t end_name.Slave x → x'.master ≡ x.master
    → Tells ms (record { from = end_name.Slave; frame = h.frame } ∷ t) end_name.Master x'
told_up ms r t x x' h told same = record {
  chain =
      ap (λ (b : Bool). turned (if b then fresh else after_taken (chain_of ms.lengths t) f)) (not_reset h.command h.frame h.way.tail h.way.head h.in_session)
      ∙ (ap (λ (chain : Chain). turned (after_taken chain f)) told.chain
      ∙ ap₂ (λ (own taken : Option Link). record { own = own; taken = taken })
      (ap (λ (n : ℕ). Some (sealing.noted n x.master.taken_link f)) told.crc ∙ (ap (λ (u : Chained). Some (sealing.noted (newest_crc ms.lengths.master u.sent) u.taken_link f)) (sym same) ∙ sym h.way.sent_link))
      (ap (λ (u : Chained). u.own_link) (sym same) ∙ h.way.answer_link));
  crc = ap last_crc h.way.sent_link ∙ sym (ap (newest_crc ms.lengths.slave) h.way.newest);
  phase = phase_by h.command h.frame h.way.tail h.way.head ∙ sym h.master.phase;
  payload = λ phase own. told.payload phase own ∙ ap (λ (u : Chained). front (pay ms ms.nonce phase) (width ms) (count_in phase u.sent)) (sym same);
  conn = told.conn ∙ ap (λ (u : Chained). conn_after ms.conn (count_in state.Connection u.sent)) (sym same);
  newest = tt;
}
  where
    f : Frame
    f = frame_of ms.lengths.slave h.frame

-- the slave's Reset frame is on its way
pub told_replied : (ms : MasterSettings) (t : List Noted) (x x' : Both) (f : List ℕ) → has_command command.Reset f ≡ true → phase_of_frame f ≡ state.Reset → IsReplied ms x' → Tells ms t end_name.Slave x → x'.master ≡ x.master
    → Tells ms (record { from = end_name.Slave; frame = f } ∷ t) end_name.Master x'
told_replied ms t x x' f is-reset phase h told same = record {
  chain =
      ap (λ (b : Bool). turned (if b then fresh else after_taken (chain_of ms.lengths t) (frame_of ms.lengths.slave f))) is-reset
      ∙ ap₂ (λ (own taken : Option Link). record { own = own; taken = taken }) (sym h.begins.outside.slave.no_own) (sym h.begins.outside.slave.no_taken);
  crc = ap last_crc h.begins.outside.slave.no_own ∙ sym (ap (newest_crc ms.lengths.slave) h.begins.outside.slave.none_sent);
  phase = phase ∙ sym (ap phase_sent h.begins.outside.master.none_sent);
  payload = λ phase own. told.payload phase own ∙ ap (λ (u : Chained). front (pay ms ms.nonce phase) (width ms) (count_in phase u.sent)) (sym same);
  conn = told.conn ∙ ap (λ (u : Chained). conn_after ms.conn (count_in state.Connection u.sent)) (sym same);
  newest = tt;
}

none-carried : (lengths : Lengths) (phase : State) (tail : List ℕ) → CarriesOwn end_name.Master phase → payload_from lengths end_name.Master phase (record { from = end_name.Master; frame = 0x2A ∷ tail } ∷ []) ≡ []
none-carried lengths phase tail own = grind arith

-- the master's Reset frame is on its way, the first of all
pub told_asked : (ms : MasterSettings) (x : Both) (f tail : List ℕ) → f ≡ 0x2A ∷ tail → IsAsked ms x → Tells ms (record { from = end_name.Master; frame = f } ∷ []) end_name.Slave x
told_asked ms x f tail head h = subst (λ (f : List ℕ). Tells ms (record { from = end_name.Master; frame = f } ∷ []) end_name.Slave x) (sym head) (record {
  chain = ap₂ (λ (own taken : Option Link). record { own = own; taken = taken }) (sym h.outside.master.no_own) (sym h.outside.master.no_taken);
  crc = ap last_crc h.outside.master.no_own ∙ sym (ap (newest_crc ms.lengths.master) none);
  phase = sym (ap phase_sent none);
  payload = λ phase own. none-carried ms.lengths phase tail own ∙ ap (λ (frames : List (List ℕ)). front (pay ms ms.nonce phase) (width ms) (count_in phase frames)) (sym none);
  conn = ap (λ (frames : List (List ℕ)). conn_after ms.conn (count_in state.Connection frames)) (sym none);
  newest = record {
    before = 0;
    one_more = λ is. absurd (no-session (sym (ap phase_sent none) ∙ is));
    place = omega arith;
    repeats = λ own. absurd (subst (λ (p : State). CarriesOwn end_name.Master p) (ap phase_sent none) own);
  };
})
  where
    none : x.master.sent ≡ []
    none = h.outside.master.none_sent

    no-session : state.Reset ≡ state.Session → ⊥
    no-session e = cc
