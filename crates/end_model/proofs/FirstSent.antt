-- A master in state Session that took no frame of the session yet: it sent one frame, which carries the first piece of
-- its session id.
use Rattle.end_model.proofs.Common.{Answers, Cause, Command, Deed, Did, Dropped, Expires, Frame, HasNoSession, IsInSession, IsNextPhase, IsResetFrame, IsRun, MasterFirstData, MasterGoesOn, MasterMoreData, MasterNextPhase, MasterSettings, MasterStarts, Move, OfMaster, PeerResets, Reaction, Refuses, ResetsItself, Rests, SendsAgain, Setup, Taking, command_of, crc_0, download_frame, first_of, frame_of, id_sent, is_reset, kept, newest_crc, nonce, option_or, own, padded, piece, piece_len, received, receives, seal, sends, session_payload, since, state_of, taken, with_answer}
use Rattle.std.proofs.Common.{◌≡◌, ℕ, List, [], ◌∷◌, Bool, false, Option, Some, None, unwrap_or, refl, sym, ap, subst, ◌∙◌, arith}
use Rattle.fsoe_base.specs.declared.command.State.TheVariants as state
use Rattle.fsoe_base.specs.declared.command.Command.TheVariants as command
use Rattle.seq_chain.specs.Sealing as sealing
use Rattle.end_model.proofs.Runs.{deed}
use Rattle.end_model.proofs.SoundRuns.{reacted}
use Rattle.end_model.proofs.ReadBack.{read_back}
use Rattle.end_model.proofs.IdFront.{first_load, first_piece, load_len}
use Rattle.end_model.proofs.NoneYet.{none_own_link, none_id}
use Rattle.end_model.proofs.FirstTaken.{taken_more, not_reset, data_not_reset}

-- a master sent its first Session frame, with this session id, and keeps the Reset frame that began the session
pub record SentFirst (ms : MasterSettings) (e : List Deed) (id : ℕ) : Type 0 where
  pub reset : List ℕ
  pub kept_is : kept (since e) ≡ Some reset
  pub reset_is : command_of (frame_of (receives (OfMaster ms)) reset).cmd ≡ Some command.Reset
  pub crc_is : newest_crc (sends (OfMaster ms)) (own (since e)) ≡ crc_0 0 0 1 0x4E (first_load (OfMaster ms) ms.profile id)
  pub id_is : id_sent (OfMaster ms) e ≡ Some id

-- nothing is taken and nothing is sent
quiet : (ms : MasterSettings) (m : Move) (passed sent : Bool) (reset : Option Cause) (because : Option Dropped) (e : List Deed) (id : ℕ) → SentFirst ms e id
    → SentFirst ms (deed m (record { took = None; passed = passed; sent = sent; reset = reset; dropped = because }) [] ∷ e) id
quiet ms m passed sent reset because e id h = record { reset = h.reset; kept_is = h.kept_is; reset_is = h.reset_is; crc_is = h.crc_is; id_is = h.id_is }

-- a master that takes the answer to its Reset frame
starts : (ms : MasterSettings) (e : List Deed) (bytes load : List ℕ) → HasNoSession e → IsResetFrame (OfMaster ms) e bytes load
    → SentFirst ms (with_answer bytes command.Reset load (download_frame ms (received bytes command.Reset load e) command.Session 1) e) (nonce (OfMaster ms) e)
starts ms e bytes load none frame =
    let s : Setup = OfMaster ms in
    let draft : List Deed = received bytes command.Reset load e in
    let first : List ℕ = first_load s ms.profile (nonce s e) in
    record {
      reset = bytes;
      kept_is = refl;
      reset_is = frame.is_read.command_is;
      crc_is =
          ap (λ id. first_of (frame_of (sends s) (seal s (since draft) 0 command.Session (padded (piece (session_payload (unwrap_or id (nonce s e)) ms.profile) (piece_len s) 1) (sends s)))).crcs) (none_id s e none.none_sent)
          ∙ ap (λ piece. first_of (frame_of (sends s) (seal s (since draft) 0 command.Session (padded piece (sends s)))).crcs) (first_piece (session_payload (nonce s e) ms.profile) (piece_len s))
          ∙ ap (λ (g : Frame). first_of g.crcs) (read_back s (since draft) 0 command.Session first (load_len s ms.profile (nonce s e)))
          ∙ ap (λ before. first_of (sealing.sealed (newest_crc (receives s) (taken (since e))) before 0 0x4E first).crcs) (none_own_link s (since e) none.none_sent)
          ∙ ap (λ frames. first_of (sealing.sealed (newest_crc (receives s) frames) None 0 0x4E first).crcs) none.none_taken;
      id_is = ap (λ id. option_or id (Some (nonce s e))) (none_id s e none.none_sent);
    }

-- a master that took a frame of the session
later : (e : List Deed) (bytes load : List ℕ) (c : Command) (answer : List ℕ) → IsInSession answer → is_reset c ≡ false → taken (since (with_answer bytes c load answer e)) ≡ [] → ⊥
later e bytes load c answer here other h = let both : bytes ∷ taken (since e) ≡ [] = sym (taken_more e bytes load c answer here other) ∙ h in cc

before_not_reset : (before c : Command) → IsNextPhase before c → is_reset before ≡ false
before_not_reset before c h = grind arith

answers : (ms : MasterSettings) (e : List Deed) (bytes load : List ℕ) (c : Command) (answer : List ℕ) → Taking e bytes load (OfMaster ms) c answer
    → taken (since (with_answer bytes c load answer e)) ≡ [] → (id : ℕ) × SentFirst ms (with_answer bytes c load answer e) id
answers ms e bytes load c answer (MasterStarts _ _ now none frame zero made sent after) h =
    (nonce (OfMaster ms) e, subst (λ (made : List ℕ). SentFirst ms (with_answer bytes command.Reset load made e) (nonce (OfMaster ms) e)) (sym made) (starts ms e bytes load none frame))
answers ms e bytes load c answer (MasterGoesOn _ _ _ is now part x) h = absurd (later e bytes load c answer x.in_session (not_reset c is) h)
answers ms e bytes load c answer (MasterNextPhase _ _ next _ is now whole x) h = absurd (later e bytes load c answer x.in_session (before_not_reset c next is) h)
answers ms e bytes load c answer (MasterFirstData _ _ now whole x) h = absurd (later e bytes load command.Parameter answer x.in_session refl h)
answers ms e bytes load c answer (MasterMoreData _ _ _ is now x) h = absurd (later e bytes load c answer x.in_session (data_not_reset c is) h)

more : (ms : MasterSettings) (e : List Deed) (m : Move) (did : Did) (sent : List ℕ) → (state_of (OfMaster ms) e ≡ state.Session → taken (since e) ≡ [] → (id : ℕ) × SentFirst ms e id) → Reaction (OfMaster ms) e m did sent
    → state_of (OfMaster ms) (deed m did sent ∷ e) ≡ state.Session → taken (since (deed m did sent ∷ e)) ≡ [] → (id : ℕ) × SentFirst ms (deed m did sent ∷ e) id
more ms e m did sent so_far (Answers bytes load c answer taking) now h = answers ms e bytes load c answer taking h
more ms e m did sent so_far (Rests slave rests) now h = absurd slave
more ms e m did sent so_far (Expires old age) now h = absurd (cc now)
more ms e m did sent so_far (SendsAgain master old age) now h = absurd (cc now)
more ms e m did sent so_far ResetsItself now h = absurd (cc now)
more ms e m did sent so_far (Refuses bytes passed found old fails test) now h = absurd (cc now)
more ms e m did sent so_far (PeerResets bytes load old frame) now h = absurd (cc now)
more ms e m did sent so_far _ now h = let t : (id : ℕ) × SentFirst ms e id = so_far now h in (t.0, quiet ms _ _ _ _ _ e t.0 t.1)

-- a master in state Session that took no frame of the session sent its first Session frame
pub sent_first : (ms : MasterSettings) (e : List Deed) → IsRun (OfMaster ms) e → state_of (OfMaster ms) e ≡ state.Session → taken (since e) ≡ [] → (id : ℕ) × SentFirst ms e id
sent_first ms [] r now h = absurd (cc now)
sent_first ms (x ∷ e) r now h = more ms e x.what x.did x.sent (sent_first ms e r.1) (reacted (OfMaster ms) x e r) now h
