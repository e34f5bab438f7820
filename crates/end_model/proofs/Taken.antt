-- What is known of a frame that an end took: the tests that it passed, the phase in which it came, and which answer was
-- sent.
use Rattle.end_model.proofs.Common.{AfterConnection, AfterSession, Command, Deed, IsExchange, IsHandshake, MasterFirstData, MasterGoesOn, MasterMoreData, MasterNextPhase, MasterSettings, MasterStarts, OfConnection, OfMaster, OfParameter, OfSession, Setup, SlaveFirstData, SlaveGoesOn, SlaveMoreData, SlaveNextPhase, SlaveRejoins, SlaveStarts, State, Taking, after_phase, all_pieces, answer, download_frame, is_data, master_answer, nat_tests, phase_of, pieces_sent, received, state_of, with_answer, with_data}
use Rattle.std.proofs.Common.{◌≡◌, ◌≢◌, ℕ, suc, ◌<◌, ◌≤◌, List, true, nat_lt, if◌then◌else◌, refl, sym, subst, ◌∙◌, arith, rules}
use Rattle.fsoe_base.specs.declared.command.State.TheVariants as state
use Rattle.fsoe_base.specs.declared.command.Command.TheVariants as command
use Rattle.end_model.proofs.Heads.{IsInSession, master_frame}
use Rattle.end_model.proofs.Reactions.{phase_of_data, slave_data}
use Rattle.end_model.proofs.SoundRuns.{handshake-data, next-data, before-data}

-- the exchange with a frame of a session: the frame is valid, and its answer is of the session too
pub exchange_of : (e : List Deed) (bytes load : List ℕ) (s : Setup) (c : Command) (f : List ℕ) → Taking e bytes load s c f → c ≢ command.Reset
    → (made : List ℕ) × (next : State) × IsExchange s e bytes load c f made next
exchange_of e bytes load s c f (SlaveRejoins _ now none frame) n = absurd (n refl)
exchange_of e bytes load s c f (SlaveStarts _ _ now none x) n = (_, _, x)
exchange_of e bytes load s c f (SlaveGoesOn _ _ _ is now part x) n = (_, _, x)
exchange_of e bytes load s c f (SlaveNextPhase _ before _ _ is now whole x) n = (_, _, x)
exchange_of e bytes load s c f (SlaveFirstData _ _ _ is now whole x) n = (_, _, x)
exchange_of e bytes load s c f (SlaveMoreData _ _ _ is now whole x) n = (_, _, x)
exchange_of e bytes load s c f (MasterStarts _ _ now none frame zero made sent after) n = absurd (n refl)
exchange_of e bytes load s c f (MasterGoesOn _ _ _ is now part x) n = (_, _, x)
exchange_of e bytes load s c f (MasterNextPhase _ _ next _ is now whole x) n = (_, _, x)
exchange_of e bytes load s c f (MasterFirstData _ _ now whole x) n = (_, _, x)
exchange_of e bytes load s c f (MasterMoreData _ _ _ is now x) n = (_, _, x)

-- the frame that answers one that was taken
abbrev pub answer_to : Setup → List Deed → List ℕ → Command → List ℕ → List ℕ
answer_to s e bytes c load = answer s (received bytes c load e) (record { command = c; load = load })

if-below : (k n : ℕ) (f g : List ℕ) → k < n → (if nat_lt k n then f else g) ≡ f
if-below k n f g h = let b : nat_lt k n ≡ true = grind (arith, nat_tests) in simp b

-- a master's answer before the last piece of a phase, after it, and in Data
next-piece : (ms : MasterSettings) (e : List Deed) (bytes load : List ℕ) (c : Command) → IsHandshake c → pieces_sent e (phase_of c) < all_pieces ms e (phase_of c)
    → answer_to (OfMaster ms) e bytes c load ≡ download_frame ms (received bytes c load e) c (suc (pieces_sent e (phase_of c)))
next-piece ms e bytes load c OfSession h = if-below _ _ _ _ h
next-piece ms e bytes load c _ h = if-below _ _ _ _ h

phase-ends : (ms : MasterSettings) (e : List Deed) (bytes load : List ℕ) (c : Command) → IsHandshake c → all_pieces ms e (phase_of c) ≤ pieces_sent e (phase_of c)
    → answer_to (OfMaster ms) e bytes c load ≡ after_phase ms (received bytes c load e) c
phase-ends ms e bytes load c h k = search rules

master-data : (ms : MasterSettings) (e : List Deed) (c : Command) → is_data c ≡ true → master_answer ms e c ≡ with_data (OfMaster ms) e
master-data ms e c h = grind arith

-- which answer was sent
pub answer_is : (e : List Deed) (bytes load : List ℕ) (s : Setup) (c : Command) (f : List ℕ) → Taking e bytes load s c f → f ≡ answer_to s e bytes c load
answer_is e bytes load s c f (SlaveRejoins _ now none frame) = refl
answer_is e bytes load s c f (SlaveStarts _ _ now none x) = x.is_made
answer_is e bytes load s c f (SlaveGoesOn _ _ _ is now part x) = x.is_made
answer_is e bytes load s c f (SlaveNextPhase _ before _ _ is now whole x) = x.is_made
answer_is e bytes load s c f (SlaveFirstData ss _ _ is now whole x) = x.is_made ∙ sym (slave_data ss (received bytes c load e) c load is)
answer_is e bytes load s c f (SlaveMoreData ss _ _ is now whole x) = x.is_made ∙ sym (slave_data ss (received bytes c load e) c load is)
answer_is e bytes load s c f (MasterStarts _ _ now none frame zero made sent after) = made
answer_is e bytes load s c f (MasterGoesOn ms _ _ is now part x) = x.is_made ∙ sym (next-piece ms e bytes load c is part)
answer_is e bytes load s c f (MasterNextPhase ms _ _ _ AfterSession now whole x) = x.is_made ∙ sym (phase-ends ms e bytes load command.Session OfSession whole)
answer_is e bytes load s c f (MasterNextPhase ms _ _ _ AfterConnection now whole x) = x.is_made ∙ sym (phase-ends ms e bytes load command.Connection OfConnection whole)
answer_is e bytes load s c f (MasterFirstData ms _ now whole x) = x.is_made ∙ sym (phase-ends ms e bytes load command.Parameter OfParameter whole)
answer_is e bytes load s c f (MasterMoreData ms _ _ is now x) = x.is_made ∙ sym (master-data ms (received bytes c load e) c is)

-- each frame that a master sends then is of a session
pub master_answers : (e : List Deed) (bytes load : List ℕ) (ms : MasterSettings) (c : Command) (f : List ℕ) → Taking e bytes load (OfMaster ms) c f → IsInSession f
master_answers e bytes load ms c f taking = subst IsInSession (sym (answer_is e bytes load (OfMaster ms) c f taking)) (master_frame ms (received bytes c load e) c)

-- an end that took data is in Data
pub data_after : (e : List Deed) (bytes load : List ℕ) (s : Setup) (c : Command) (f : List ℕ) → Taking e bytes load s c f → is_data c ≡ true → state_of s (with_answer bytes c load f e) ≡ state.Data
data_after e bytes load s c f (SlaveGoesOn _ _ _ is now part x) d = absurd (handshake-data c is (phase_of_data c d))
data_after e bytes load s c f (SlaveNextPhase _ before _ _ is now whole x) d = absurd (next-data before c is (phase_of_data c d))
data_after e bytes load s c f (SlaveFirstData _ _ _ is now whole x) d = x.after
data_after e bytes load s c f (SlaveMoreData _ _ _ is now whole x) d = x.after
data_after e bytes load s c f (MasterGoesOn _ _ _ is now part x) d = absurd (handshake-data c is (phase_of_data c d))
data_after e bytes load s c f (MasterNextPhase _ _ next _ is now whole x) d = absurd (before-data c next is (phase_of_data c d))
data_after e bytes load s c f (MasterFirstData _ _ now whole x) d = x.after
data_after e bytes load s c f (MasterMoreData _ _ _ is now x) d = x.after
data_after e bytes load s c f _ d = absurd (cc d)
