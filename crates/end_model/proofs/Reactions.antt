-- In each run, what an end does at its next event is one of the reactions.
use Rattle.end_model.proofs.Common.{AfterConnection, AfterSession, Ages, Answers, Code, Command, Deed, DropsInReset, DropsLength, DropsRepeat, DropsReset, Expires, Fails, HasNoSession, Holds, IsExchange, IsHandshake, IsProper, IsReaction, IsResetFrame, IsValid, MasterFirstData, MasterGoesOn, MasterMoreData, MasterNextPhase, MasterSettings, MasterStarts, Move, OfConnection, OfMaster, OfParameter, OfSession, OfSlave, PeerResets, Puts, Refuses, ResetsItself, Rests, SendsAgain, SetsNonce, Setup, SlaveFirstData, SlaveGoesOn, SlaveMoreData, SlaveNextPhase, SlaveRejoins, SlaveSettings, SlaveStarts, State, Taking, Verdict, after_phase, age, all_pieces, deed_of, download_frame, dropped, eqb-false, eqb-true, failed_with, first_of, is_data, kept, leb-false, leb-true, limit, ltb-false, ltb-true, nothing, on_expiry, on_fault, on_reset_frame, on_verdict, phase_of, pieces_sent, received, since, slave_answer, state_of, step, takes_frame, upload_is_whole, verdict, with_answer, with_data}
use Rattle.std.proofs.Common.{◌≡◌, ◌≢◌, ℕ, suc, List, Bool, true, false, nat_lt, nat_le, Some, None, ◌==◌, if◌then◌else◌, refl, sym, subst, ◌∙◌, arith, rules}
use Rattle.fsoe_base.specs.declared.command.State.TheVariants as state
use Rattle.fsoe_base.specs.declared.command.Command.TheVariants as command
use Rattle.fsoe_base.specs.declared.did.Dropped.TheVariants as why
use Rattle.param_load.specs.declared.entry.Move.TheVariants as move
use Rattle.end_model.proofs.Heads.{IsInSession}
use Rattle.end_model.proofs.Judged.{Judged, HasOtherLength, IsKept, FailsTest, FailsContents, ResetsFrame, IsNext, is_judged}
use Rattle.end_model.proofs.Ways.{SlaveWay, Start, More, Next, First, Data, slave_way, MasterWay, master_way}

-- in state Data a slave has the whole parameters
abbrev pub IsLoaded : Setup → List Deed → Type 0
IsLoaded (OfMaster ms) e = Unit {0}
IsLoaded (OfSlave ss) e = state_of (OfSlave ss) e ≡ state.Data → upload_is_whole ss state.Parameter e ≡ true

-- what holds in each run and says which reactions there can be
pub record Sound (s : Setup) (e : List Deed) : Type 0 where
  pub no_session : state_of s e ≡ state.Reset → HasNoSession e
  pub is_loaded : IsLoaded s e

elsewhere : (now p : State) → now ≡ p → p ≢ state.Reset → now ≢ state.Reset
elsewhere now p h n = λ k. n (sym h ∙ k)

pub slave_data : (ss : SlaveSettings) (e : List Deed) (c : Command) (load : List ℕ) → is_data c ≡ true → slave_answer ss e c load ≡ with_data (OfSlave ss) e
slave_data ss e c load h = grind arith

-- a slave takes a frame of a session, and answers it
slave-exchange : (ss : SlaveSettings) (e : List Deed) (bytes load : List ℕ) (c : Command) → c ≢ command.Reset → IsValid (OfSlave ss) e bytes c load
    → IsExchange (OfSlave ss) e bytes load c (slave_answer ss (received bytes c load e) c load) (slave_answer ss (received bytes c load e) c load) (phase_of c)
slave-exchange ss e bytes load c h k = grind arith

pub phase_of_data : (c : Command) → is_data c ≡ true → phase_of c ≡ state.Data
phase_of_data c h = grind arith

-- a slave takes data, and answers with data
slave-data-exchange : (ss : SlaveSettings) (e : List Deed) (bytes load : List ℕ) (c : Command) → c ≢ command.Reset → IsValid (OfSlave ss) e bytes c load → is_data c ≡ true
    → IsExchange (OfSlave ss) e bytes load c (slave_answer ss (received bytes c load e) c load) (with_data (OfSlave ss) (received bytes c load e)) state.Data
slave-data-exchange ss e bytes load c h k l = search rules

slave-takes : (ss : SlaveSettings) (e : List Deed) (bytes load : List ℕ) (c : Command) → c ≢ command.Reset → Sound (OfSlave ss) e → IsValid (OfSlave ss) e bytes c load
    → SlaveWay (λ phase. upload_is_whole ss phase e) (state_of (OfSlave ss) e) c → Taking e bytes load (OfSlave ss) c (slave_answer ss (received bytes c load e) c load)
slave-takes ss e bytes load c n sound valid (Start now is) =
    subst (λ (c : Command). IsValid (OfSlave ss) e bytes c load → Taking e bytes load (OfSlave ss) c (slave_answer ss (received bytes c load e) c load)) (sym is)
    (λ valid. SlaveStarts ss _ now (sound.no_session now) (slave-exchange ss e bytes load command.Session (λ k. cc) valid)) valid
slave-takes ss e bytes load c n sound valid (More is now part) = SlaveGoesOn ss c _ is now part (slave-exchange ss e bytes load c n valid)
slave-takes ss e bytes load c n sound valid (Next before is now whole) = SlaveNextPhase ss before c _ is now whole (slave-exchange ss e bytes load c n valid)
slave-takes ss e bytes load c n sound valid (First is now whole) = SlaveFirstData ss c _ is now whole (slave-data-exchange ss e bytes load c n valid is)
slave-takes ss e bytes load c n sound valid (Data is now) = SlaveMoreData ss c _ is now (sound.is_loaded now) (slave-data-exchange ss e bytes load c n valid is)

-- a piece is a frame of its phase
piece-in : (ms : MasterSettings) (e : List Deed) (c : Command) (k : ℕ) → IsHandshake c → IsInSession (download_frame ms e c k)
piece-in ms e c k h = grind arith

-- the state after a master sent a piece
piece-after : (ms : MasterSettings) (e : List Deed) (bytes load : List ℕ) (c next : Command) (k : ℕ) → IsHandshake next
    → state_of (OfMaster ms) (with_answer bytes c load (download_frame ms (received bytes c load e) next k) e) ≡ phase_of next
piece-after ms e bytes load c next k h = grind arith

-- a master takes a frame of a session, and answers it with a piece
piece-exchange : (ms : MasterSettings) (e : List Deed) (bytes load : List ℕ) (c next : Command) (k : ℕ) → IsHandshake next → IsValid (OfMaster ms) e bytes c load
    → IsExchange (OfMaster ms) e bytes load c (download_frame ms (received bytes c load e) next k) (download_frame ms (received bytes c load e) next k) (phase_of next)
piece-exchange ms e bytes load c next k h l = search (rules, piece-in, piece-after)

-- a master takes a frame of a session, and answers it with data
data-exchange : (ms : MasterSettings) (e : List Deed) (bytes load : List ℕ) (c : Command) → IsValid (OfMaster ms) e bytes c load
    → IsExchange (OfMaster ms) e bytes load c (with_data (OfMaster ms) (received bytes c load e)) (with_data (OfMaster ms) (received bytes c load e)) state.Data
data-exchange ms e bytes load c h = grind arith

-- a master goes on with the next piece, or with what comes after the phase
master-next : (ms : MasterSettings) (e : List Deed) (bytes load : List ℕ) (c : Command) (b : Bool) → IsHandshake c → state_of (OfMaster ms) e ≡ phase_of c → IsValid (OfMaster ms) e bytes c load
    → nat_lt (pieces_sent e (phase_of c)) (all_pieces ms e (phase_of c)) ≡ b
    → Taking e bytes load (OfMaster ms) c (if b then download_frame ms (received bytes c load e) c (suc (pieces_sent e (phase_of c))) else after_phase ms (received bytes c load e) c)
master-next ms e bytes load c true is now valid h =
    MasterGoesOn ms c _ is now (ltb-true (pieces_sent e (phase_of c)) (all_pieces ms e (phase_of c)) h) (piece-exchange ms e bytes load c c (suc (pieces_sent e (phase_of c))) is valid)
master-next ms e bytes load c false OfSession now valid h =
    MasterNextPhase ms command.Session command.Connection _ AfterSession now (ltb-false (pieces_sent e state.Session) (all_pieces ms e state.Session) h)
    (piece-exchange ms e bytes load command.Session command.Connection 1 OfConnection valid)
master-next ms e bytes load c false OfConnection now valid h =
    MasterNextPhase ms command.Connection command.Parameter _ AfterConnection now (ltb-false (pieces_sent e state.Connection) (all_pieces ms e state.Connection) h)
    (piece-exchange ms e bytes load command.Connection command.Parameter 1 OfParameter valid)
master-next ms e bytes load c false OfParameter now valid h =
    MasterFirstData ms _ now (ltb-false (pieces_sent e state.Parameter) (all_pieces ms e state.Parameter) h) (data-exchange ms e bytes load command.Parameter valid)

abbrev is_next : Setup → List Deed → List ℕ → List ℕ → Command → Type 0
is_next s e bytes load c = IsReaction s e (deed_of s e (move.Deliver bytes) (takes_frame c load))

master-echo : (ms : MasterSettings) (e : List Deed) (bytes load : List ℕ) (c : Command) → IsHandshake c → state_of (OfMaster ms) e ≡ phase_of c → IsValid (OfMaster ms) e bytes c load → is_next (OfMaster ms) e bytes load c
master-echo ms e bytes load c OfSession now valid = Answers bytes load command.Session _ (master-next ms e bytes load command.Session _ OfSession now valid refl)
master-echo ms e bytes load c is now valid = Answers bytes load c _ (master-next ms e bytes load c _ is now valid refl)

master-reply : (ms : MasterSettings) (e : List Deed) (bytes load : List ℕ) (c : Command) → is_data c ≡ true → state_of (OfMaster ms) e ≡ state.Data → IsValid (OfMaster ms) e bytes c load → is_next (OfMaster ms) e bytes load c
master-reply ms e bytes load command.FailSafeData h now valid = Answers bytes load command.FailSafeData _ (MasterMoreData ms command.FailSafeData _ refl now (data-exchange ms e bytes load command.FailSafeData valid))
master-reply ms e bytes load command.ProcessData h now valid = Answers bytes load command.ProcessData _ (MasterMoreData ms command.ProcessData _ refl now (data-exchange ms e bytes load command.ProcessData valid))
master-reply ms e bytes load _ h now valid = absurd (cc h)

master-takes : (ms : MasterSettings) (e : List Deed) (bytes load : List ℕ) (c : Command) → IsValid (OfMaster ms) e bytes c load → MasterWay (state_of (OfMaster ms) e) c → is_next (OfMaster ms) e bytes load c
master-takes ms e bytes load c h k = search (rules, master-echo, master-reply)

by-valid : (s : Setup) (e : List Deed) (bytes load : List ℕ) (c : Command) → Sound s e → c ≢ command.Reset → IsValid s e bytes c load → is_next s e bytes load c
by-valid (OfMaster ms) e bytes load c sound n valid = master-takes ms e bytes load c valid (master_way (state_of (OfMaster ms) e) c n valid.is_allowed)
by-valid (OfSlave ss) e bytes load c sound n valid =
    Answers bytes load c _ (slave-takes ss e bytes load c n sound valid (slave_way (λ phase. upload_is_whole ss phase e) (state_of (OfSlave ss) e) c n valid.is_allowed))

by-fault : (s : Setup) (e : List Deed) (bytes : List ℕ) (now : State) (passed : Bool) (found : Code) → state_of s e ≡ now → verdict s e bytes ≡ failed_with passed found → Fails s e bytes passed found → IsReaction s e (deed_of s e (move.Deliver bytes) (on_fault now passed found))
by-fault s e bytes state.Reset passed found h v t = DropsInReset bytes passed found h v t
by-fault s e bytes _ passed found h v t = Refuses bytes passed found (elsewhere _ _ h (λ k. cc)) v t

master-starts : (ms : MasterSettings) (e : List Deed) (bytes load : List ℕ) (b : Bool) → Sound (OfMaster ms) e → IsResetFrame (OfMaster ms) e bytes load → state_of (OfMaster ms) e ≡ state.Reset → (first_of load == 0) ≡ b
    → IsReaction (OfMaster ms) e (deed_of (OfMaster ms) e (move.Deliver bytes) (if b then takes_frame command.Reset load else dropped why.InReset))
master-starts ms e bytes load true sound frame now h =
    Answers bytes load command.Reset _ (MasterStarts ms _ now (sound.no_session now) frame (eqb-true (first_of load) 0 h) refl (piece-in ms (received bytes command.Reset load e) command.Session 1 OfSession) (piece-after ms e bytes load command.Reset command.Session 1 OfSession))
master-starts ms e bytes load false sound frame now h = DropsReset bytes load tt now frame (eqb-false (first_of load) 0 h)

by-reset : (s : Setup) (e : List Deed) (bytes load : List ℕ) (now : State) → Sound s e → IsResetFrame s e bytes load → state_of s e ≡ now → IsReaction s e (deed_of s e (move.Deliver bytes) (on_reset_frame now s load))
by-reset (OfMaster ms) e bytes load state.Reset sound frame h = master-starts ms e bytes load (first_of load == 0) sound frame h refl
by-reset (OfSlave ss) e bytes load state.Reset sound frame h = Answers bytes load command.Reset _ (SlaveRejoins ss h (sound.no_session h) frame)
by-reset s e bytes load _ sound frame h = PeerResets bytes load (elsewhere _ _ h (λ k. cc)) frame

-- nothing is kept where there is no session
repeats-outside : (s : Setup) (e : List Deed) (bytes : List ℕ) → Sound s e → kept (since e) ≡ Some bytes → state_of s e ≢ state.Reset
repeats-outside s e bytes sound h = λ k. let none : kept (since e) ≡ None = (sound.no_session k).none_kept in cc

by-verdict : (s : Setup) (e : List Deed) (bytes : List ℕ) (v : Verdict) → Sound s e → verdict s e bytes ≡ v → Judged s e bytes v → IsReaction s e (deed_of s e (move.Deliver bytes) (on_verdict (state_of s e) s v))
by-verdict s e bytes v sound h (HasOtherLength other) = DropsLength bytes other
by-verdict s e bytes v sound h (IsKept long kept_is) = DropsRepeat bytes long kept_is (repeats-outside s e bytes sound kept_is)
by-verdict s e bytes v sound h (FailsTest found test) = by-fault s e bytes (state_of s e) false found refl h test
by-verdict s e bytes v sound h (FailsContents found test) = by-fault s e bytes (state_of s e) true found refl h test
by-verdict s e bytes v sound h (ResetsFrame load frame) = by-reset s e bytes load (state_of s e) sound frame refl
by-verdict s e bytes v sound h (IsNext command.Reset load n valid) = absurd (n refl)
by-verdict s e bytes v sound h (IsNext c load n valid) = by-valid s e bytes load c sound n valid

by-expiry : (s : Setup) (e : List Deed) (now : State) → state_of s e ≡ now → nat_le (limit s e) (suc (age s e)) ≡ true → IsReaction s e (deed_of s e move.Tick (on_expiry now s))
by-expiry (OfMaster ms) e state.Reset h t = SendsAgain tt h (leb-true (limit (OfMaster ms) e) (suc (age (OfMaster ms) e)) t)
by-expiry (OfSlave ss) e state.Reset h t = Rests tt h
by-expiry s e _ h t = Expires (elsewhere _ _ h (λ k. cc)) (leb-true (limit s e) (suc (age s e)) t)

below : (s : Setup) (e : List Deed) (now : State) → state_of s e ≡ now → nat_le (limit s e) (suc (age s e)) ≡ false → IsReaction s e (deed_of s e move.Tick nothing)
below (OfMaster ms) e now h t = Ages tt (leb-false (limit (OfMaster ms) e) (suc (age (OfMaster ms) e)) t)
below (OfSlave ss) e state.Reset h t = Rests tt h
below (OfSlave ss) e _ h t = Ages (elsewhere _ _ h (λ k. cc)) (leb-false (limit (OfSlave ss) e) (suc (age (OfSlave ss) e)) t)

by-tick : (s : Setup) (e : List Deed) (b : Bool) → nat_le (limit s e) (suc (age s e)) ≡ b → IsReaction s e (deed_of s e move.Tick (if b then on_expiry (state_of s e) s else nothing))
by-tick s e b h = search (rules, by-expiry, below)

-- what an end does next
pub next_reaction : (s : Setup) (e : List Deed) (m : Move) → Sound s e → IsProper s m → IsReaction s e (step s e m)
next_reaction s e (move.Deliver bytes) sound proper = by-verdict s e bytes (verdict s e bytes) sound refl (is_judged s e bytes)
next_reaction s e move.Tick sound proper = by-tick s e (nat_le (limit s e) (suc (age s e))) refl
next_reaction s e (move.Put load) sound proper = Puts load proper
next_reaction s e (move.Hold failsafe) sound proper = Holds failsafe
next_reaction s e (move.Nonce id) sound proper = SetsNonce id proper
next_reaction s e move.Local sound proper = ResetsItself
