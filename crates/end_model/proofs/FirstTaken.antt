-- A slave that took one frame of a session: it is the first Session frame, and the slave's answer to it carries the
-- first piece of its session id.
use Rattle.end_model.proofs.Common.{Answers, Cause, Command, Deed, Did, Dropped, DropsReset, Expires, Frame, HasNoSession, IsHandshake, IsInSession, IsNextPhase, IsRun, IsValid, Move, OfSlave, PeerResets, Reaction, Refuses, ResetsItself, SendsAgain, Setup, SlaveFirstData, SlaveGoesOn, SlaveMoreData, SlaveNextPhase, SlaveRejoins, SlaveSettings, SlaveStarts, State, Taking, count_in, crc_0, first_of, frame_len, frame_of, id_piece, id_sent, is_data, is_reset, kept, newest_crc, nonce, option_or, own, padded, phase_of, piece_len, received, receives, same_phase, seal, sends, session_payload, since, slave_answer, state_of, taken, taken_link, uploaded, with_answer}
use Rattle.std.proofs.Common.{◌≡◌, ◌≢◌, ℕ, suc, List, [], ◌∷◌, ◌++◌, length, take, Bool, false, Option, Some, None, if◌then◌else◌, IsTrue, refl, sym, ap, subst, ◌∙◌, arith, rules}
use Rattle.fsoe_base.specs.declared.command.State.TheVariants as state
use Rattle.fsoe_base.specs.declared.command.Command.TheVariants as command
use Rattle.seq_chain.specs.Sealing as sealing
use Rattle.end_model.proofs.Runs.{deed}
use Rattle.end_model.proofs.SoundRuns.{handshake-on, reacted}
use Rattle.end_model.proofs.ReadBack.{read_back}
use Rattle.end_model.proofs.IdFront.{first_load, first_piece, load_len}
use Rattle.end_model.proofs.NoneYet.{none_own_link, none_taken_link, none_phase, none_joined, none_id}

-- a slave took this frame first, and no other one, and answered it by this session id
pub record TookFirst (ss : SlaveSettings) (e : List Deed) (first : List ℕ) (id : ℕ) : Type 0 where
  pub len_is : length first ≡ frame_len (receives (OfSlave ss))
  pub state_is : state_of (OfSlave ss) e ≡ state.Session
  pub kept_is : kept (since e) ≡ Some first
  pub uploaded_is : uploaded ss state.Session e ≡ take (piece_len (OfSlave ss)) (frame_of (receives (OfSlave ss)) first).load
  pub link_is : taken_link (OfSlave ss) (since e) ≡ Some (record { number = 1; crc = first_of (frame_of (receives (OfSlave ss)) first).crcs })
  pub crc_is : newest_crc (sends (OfSlave ss)) (own (since e)) ≡ crc_0 (first_of (frame_of (receives (OfSlave ss)) first).crcs) 0 1 0x4E (first_load (OfSlave ss) ss.profile id)
  pub id_is : id_sent (OfSlave ss) e ≡ Some id

-- nothing is taken and nothing is sent
quiet : (ss : SlaveSettings) (m : Move) (passed sent : Bool) (reset : Option Cause) (because : Option Dropped) (e : List Deed) (first : List ℕ) (id : ℕ) → TookFirst ss e first id
    → TookFirst ss (deed m (record { took = None; passed = passed; sent = sent; reset = reset; dropped = because }) [] ∷ e) first id
quiet ss m passed sent reset because e first id h = assumption

-- the first Session frame is one
count_one : (frames : List (List ℕ)) (phase : State) → frames ≡ [] → phase ≡ state.Session → (if same_phase state.Session phase then suc (count_in state.Session frames) else count_in state.Session frames) ≡ 1
count_one frames phase none is = rw (is, none) refl

-- the piece of the session id that answers it is the first
id_piece_is : (ss : SlaveSettings) (e : List Deed) (bytes load : List ℕ) → HasNoSession e → IsValid (OfSlave ss) e bytes command.Session load
    → id_piece ss (received bytes command.Session load e) ≡ take (piece_len (OfSlave ss)) (session_payload (nonce (OfSlave ss) e) ss.profile)
id_piece_is ss e bytes load h k = search (rules, none_id, count_one, first_piece)

-- a slave that takes its first Session frame
starts : (ss : SlaveSettings) (e : List Deed) (bytes load : List ℕ) → HasNoSession e → IsValid (OfSlave ss) e bytes command.Session load
    → TookFirst ss (with_answer bytes command.Session load (slave_answer ss (received bytes command.Session load e) command.Session load) e) bytes (nonce (OfSlave ss) e)
starts ss e bytes load none valid =
    let s : Setup = OfSlave ss in
    let c : ℕ = piece_len s in
    let f : Frame = frame_of (receives s) bytes in
    let draft : List Deed = received bytes command.Session load e in
    let answer_load : List ℕ = first_load s ss.profile (nonce s e) in
    record {
      len_is = valid.is_read.has_length;
      state_is = refl;
      kept_is = refl;
      uploaded_is = ap (λ before. before ++ take c load) (none_joined state.Session c (since e) none.none_taken) ∙ ap (take c) (sym valid.load_is);
      link_is =
          ap (λ frames. Some (sealing.noted (newest_crc (sends s) frames) (taken_link s (since e)) f)) none.none_sent
          ∙ ap (λ before. Some (sealing.noted 0 before f)) (none_taken_link s (since e) none.none_taken);
      crc_is =
          ap (λ piece. first_of (frame_of (sends s) (seal s (since draft) 0 command.Session (padded piece (sends s)))).crcs) (id_piece_is ss e bytes load none valid)
          ∙ ap (λ (g : Frame). first_of g.crcs) (read_back s (since draft) 0 command.Session answer_load (load_len s ss.profile (nonce s e)))
          ∙ ap (λ before. first_of (sealing.sealed (first_of f.crcs) before 0 0x4E answer_load).crcs) (none_own_link s (since e) none.none_sent);
      id_is = ap (λ id. option_or id (Some (nonce s e))) (none_id s e none.none_sent);
    }

pub taken_more : (e : List Deed) (bytes load : List ℕ) (c : Command) (answer : List ℕ) → IsInSession answer → is_reset c ≡ false → taken (since (with_answer bytes c load answer e)) ≡ bytes ∷ taken (since e)
taken_more e bytes load c answer here other = rw (here.in_session, other) refl

-- a slave that was in a session has taken a frame before
later : (ss : SlaveSettings) (e : List Deed) (bytes load : List ℕ) (c : Command) (answer first : List ℕ) (now : State) → IsInSession answer → is_reset c ≡ false → state_of (OfSlave ss) e ≡ now → now ≢ state.Reset
    → taken (since (with_answer bytes c load answer e)) ≡ first ∷ [] → ⊥
later ss e bytes load c answer first now h k l m n = search (rules, none_phase)

pub not_reset : (c : Command) → IsHandshake c → is_reset c ≡ false
not_reset c h = grind arith

pub next_not_reset : (before c : Command) → IsNextPhase before c → is_reset c ≡ false
next_not_reset before c h = grind arith

pub data_not_reset : (c : Command) → IsTrue (is_data c) → is_reset c ≡ false
data_not_reset c h = grind arith

before_next : (before c : Command) → IsNextPhase before c → phase_of before ≢ state.Reset
before_next before c h = grind arith

answers : (ss : SlaveSettings) (e : List Deed) (bytes load : List ℕ) (c : Command) (answer first : List ℕ) → Taking e bytes load (OfSlave ss) c answer
    → taken (since (with_answer bytes c load answer e)) ≡ first ∷ [] → (id : ℕ) × TookFirst ss (with_answer bytes c load answer e) first id
answers ss e bytes load c answer first (SlaveRejoins _ now none frame) h = absurd (cc h)
answers ss e bytes load c answer first (SlaveStarts _ _ now none x) h =
    let both : bytes ∷ taken (since e) ≡ first ∷ [] = sym (taken_more e bytes load command.Session answer x.in_session refl) ∙ h in
    let same : bytes ≡ first = cc in (
      nonce (OfSlave ss) e,
      subst (λ (f : List ℕ). TookFirst ss (with_answer bytes command.Session load answer e) f (nonce (OfSlave ss) e)) same
          (subst (λ (made : List ℕ). TookFirst ss (with_answer bytes command.Session load made e) bytes (nonce (OfSlave ss) e)) (sym x.is_made) (starts ss e bytes load none x.valid)),
    )
answers ss e bytes load c answer first (SlaveGoesOn _ _ _ is now part x) h = absurd (later ss e bytes load c answer first (phase_of c) x.in_session (not_reset c is) now (handshake-on c is) h)
answers ss e bytes load c answer first (SlaveNextPhase _ before _ _ is now whole x) h = absurd (later ss e bytes load c answer first (phase_of before) x.in_session (next_not_reset before c is) now (before_next before c is) h)
answers ss e bytes load c answer first (SlaveFirstData _ _ _ is now whole x) h = absurd (later ss e bytes load c answer first state.Parameter x.in_session (data_not_reset c is) now (λ k. cc) h)
answers ss e bytes load c answer first (SlaveMoreData _ _ _ is now whole x) h = absurd (later ss e bytes load c answer first state.Data x.in_session (data_not_reset c is) now (λ k. cc) h)

more : (ss : SlaveSettings) (e : List Deed) (m : Move) (did : Did) (sent first : List ℕ) → (taken (since e) ≡ first ∷ [] → (id : ℕ) × TookFirst ss e first id) → Reaction (OfSlave ss) e m did sent
    → taken (since (deed m did sent ∷ e)) ≡ first ∷ [] → (id : ℕ) × TookFirst ss (deed m did sent ∷ e) first id
more ss e m did sent first so_far (Answers bytes load c answer taking) h = answers ss e bytes load c answer first taking h
more ss e m did sent first so_far (Expires now old) h = absurd (cc h)
more ss e m did sent first so_far (SendsAgain master now old) h = absurd master
more ss e m did sent first so_far ResetsItself h = absurd (cc h)
more ss e m did sent first so_far (DropsReset bytes load master now frame other) h = absurd master
more ss e m did sent first so_far (Refuses bytes passed found now fails test) h = absurd (cc h)
more ss e m did sent first so_far (PeerResets bytes load now frame) h = absurd (cc h)
more ss e m did sent first so_far _ h = let t : (id : ℕ) × TookFirst ss e first id = so_far h in (t.0, quiet ss _ _ _ _ _ e first t.0 t.1)

-- a slave that took one frame of a session took the first
pub took_first : (ss : SlaveSettings) (e : List Deed) (first : List ℕ) → IsRun (OfSlave ss) e → taken (since e) ≡ first ∷ [] → (id : ℕ) × TookFirst ss e first id
took_first ss [] first r h = absurd (cc h)
took_first ss (x ∷ e) first r h = more ss e x.what x.did x.sent first (took_first ss e first r.1) (reacted (OfSlave ss) x e r) h
