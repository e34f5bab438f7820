-- In each run nothing is of a session in state Reset, and in state Data a slave has the whole parameters.
use Rattle.end_model.proofs.Common.{Answers, Cause, Command, Deed, Did, Dropped, DropsReset, Expires, HasNoSession, IsExchange, IsHandshake, IsNextPhase, IsProper, IsReaction, IsRun, MasterFirstData, MasterGoesOn, MasterMoreData, MasterNextPhase, MasterSettings, MasterStarts, Move, OfMaster, OfSlave, PeerResets, Reaction, Refuses, ResetsItself, Rests, SendsAgain, Setup, SlaveFirstData, SlaveGoesOn, SlaveMoreData, SlaveNextPhase, SlaveRejoins, SlaveSettings, SlaveStarts, State, Taking, is_data, is_empty, phase_of, state_of, step, takes_frame, upload_is_whole, with_answer}
use Rattle.std.proofs.Common.{◌≡◌, ◌≢◌, ℕ, List, [], ◌∷◌, Bool, true, false, Option, None, refl, sym, subst, ◌∙◌, arith}
use Rattle.fsoe_base.specs.declared.command.State.TheVariants as state
use Rattle.fsoe_base.specs.declared.command.Command.TheVariants as command
use Rattle.param_load.specs.declared.entry.Move.TheVariants as move
use Rattle.end_model.proofs.Runs.{deed}
use Rattle.end_model.proofs.Reactions.{Sound, next_reaction}

-- the phases of the frames of a handshake and of data
pub handshake-on : (c : Command) → IsHandshake c → phase_of c ≢ state.Reset
handshake-on c h = grind arith

pub next-on : (before c : Command) → IsNextPhase before c → phase_of c ≢ state.Reset
next-on before c h = grind arith

pub handshake-data : (c : Command) → IsHandshake c → phase_of c ≢ state.Data
handshake-data c h = grind arith

pub next-data : (before c : Command) → IsNextPhase before c → phase_of c ≢ state.Data
next-data before c h = grind arith

pub before-data : (c next : Command) → IsNextPhase c next → phase_of c ≢ state.Data
before-data c next h = grind arith

pub data-on : (c : Command) → is_data c ≡ true → phase_of c ≢ state.Reset
data-on c h = grind arith

-- a state that isn't this one
other : (s : Setup) (e : List Deed) (p q : State) → state_of s e ≡ p → p ≢ q → state_of s e ≢ q
other s e p q h n = λ k. n (sym h ∙ k)

-- a master in a session
master-on : (ms : MasterSettings) (e : List Deed) (p : State) → state_of (OfMaster ms) e ≡ p → p ≢ state.Reset → Sound (OfMaster ms) e
master-on ms e p h n = record { no_session = λ k. absurd (other (OfMaster ms) e p state.Reset h n k); is_loaded = tt }

master-took : (ms : MasterSettings) (e : List Deed) (bytes load answer : List ℕ) (c : Command) → Taking e bytes load (OfMaster ms) c answer → Sound (OfMaster ms) (deed (move.Deliver bytes) (takes_frame c load) answer ∷ e)
master-took ms e bytes load answer c (MasterStarts _ _ now none frame zero made sent after) = master-on ms (with_answer bytes command.Reset load answer e) state.Session after (λ k. cc)
master-took ms e bytes load answer c (MasterGoesOn _ _ _ is now part x) = master-on ms (with_answer bytes c load answer e) (phase_of c) x.after (handshake-on c is)
master-took ms e bytes load answer c (MasterNextPhase _ _ next _ is now whole x) = master-on ms (with_answer bytes c load answer e) (phase_of next) x.after (next-on c next is)
master-took ms e bytes load answer c (MasterFirstData _ _ now whole x) = master-on ms (with_answer bytes command.Parameter load answer e) state.Data x.after (λ k. cc)
master-took ms e bytes load answer c (MasterMoreData _ _ _ is now x) = master-on ms (with_answer bytes c load answer e) state.Data x.after (λ k. cc)

-- nothing is taken and nothing is sent
quiet : (m : Move) (passed sent : Bool) (reset : Option Cause) (because : Option Dropped) (e : List Deed) → HasNoSession e
    → HasNoSession (deed m (record { took = None; passed = passed; sent = sent; reset = reset; dropped = because }) [] ∷ e)
quiet m passed sent reset because e h = record { none_sent = h.none_sent; none_taken = h.none_taken; none_kept = h.none_kept }

pub master_sound : (ms : MasterSettings) (e : List Deed) (m : Move) (d : Did) (f : List ℕ) → Sound (OfMaster ms) e → Reaction (OfMaster ms) e m d f → Sound (OfMaster ms) (deed m d f ∷ e)
master_sound ms e m d f h (Rests slave now) = absurd slave
master_sound ms e m d f h (Expires now old) = record { no_session = λ k. record { none_sent = refl; none_taken = refl; none_kept = refl }; is_loaded = tt }
master_sound ms e m d f h (SendsAgain master now old) = record { no_session = λ k. record { none_sent = refl; none_taken = refl; none_kept = refl }; is_loaded = tt }
master_sound ms e m d f h ResetsItself = record { no_session = λ k. record { none_sent = refl; none_taken = refl; none_kept = refl }; is_loaded = tt }
master_sound ms e m d f h (Refuses bytes passed found now fails test) = record { no_session = λ k. record { none_sent = refl; none_taken = refl; none_kept = refl }; is_loaded = tt }
master_sound ms e m d f h (PeerResets bytes load now frame) = record { no_session = λ k. record { none_sent = refl; none_taken = refl; none_kept = refl }; is_loaded = tt }
master_sound ms e m d f h (Answers bytes load c answer taken) = master-took ms e bytes load answer c taken
master_sound ms e m d f h _ = record { no_session = λ k. quiet _ _ _ _ _ e (h.no_session k); is_loaded = tt }

-- a slave in a handshake
slave-on : (ss : SlaveSettings) (e : List Deed) (p : State) → state_of (OfSlave ss) e ≡ p → p ≢ state.Reset → p ≢ state.Data → Sound (OfSlave ss) e
slave-on ss e p h n k = record { no_session = λ r. absurd (other (OfSlave ss) e p state.Reset h n r); is_loaded = λ d. absurd (other (OfSlave ss) e p state.Data h k d) }

slave-in-data : (ss : SlaveSettings) (e : List Deed) (bytes load answer made : List ℕ) (c : Command) → is_data c ≡ true → upload_is_whole ss state.Parameter e ≡ true
    → IsExchange (OfSlave ss) e bytes load c answer made state.Data → Sound (OfSlave ss) (with_answer bytes c load answer e)
slave-in-data ss e bytes load answer made c h k l = grind arith

slave-took : (ss : SlaveSettings) (e : List Deed) (bytes load answer : List ℕ) (c : Command) → Taking e bytes load (OfSlave ss) c answer → Sound (OfSlave ss) (deed (move.Deliver bytes) (takes_frame c load) answer ∷ e)
slave-took ss e bytes load answer c (SlaveRejoins _ now none frame) = record { no_session = λ k. record { none_sent = refl; none_taken = refl; none_kept = refl }; is_loaded = λ k. cc }
slave-took ss e bytes load answer c (SlaveStarts _ _ now none x) = slave-on ss (with_answer bytes command.Session load answer e) state.Session x.after (λ k. cc) (λ k. cc)
slave-took ss e bytes load answer c (SlaveGoesOn _ _ _ is now part x) = slave-on ss (with_answer bytes c load answer e) (phase_of c) x.after (handshake-on c is) (handshake-data c is)
slave-took ss e bytes load answer c (SlaveNextPhase _ before _ _ is now whole x) = slave-on ss (with_answer bytes c load answer e) (phase_of c) x.after (next-on before c is) (next-data before c is)
slave-took ss e bytes load answer c (SlaveFirstData _ _ _ is now whole x) = slave-in-data ss e bytes load answer _ c is whole x
slave-took ss e bytes load answer c (SlaveMoreData _ _ _ is now whole x) = slave-in-data ss e bytes load answer _ c is whole x

pub slave_sound : (ss : SlaveSettings) (e : List Deed) (m : Move) (d : Did) (f : List ℕ) → Sound (OfSlave ss) e → Reaction (OfSlave ss) e m d f → Sound (OfSlave ss) (deed m d f ∷ e)
slave_sound ss e m d f h (Expires now old) = record { no_session = λ k. record { none_sent = refl; none_taken = refl; none_kept = refl }; is_loaded = λ k. cc }
slave_sound ss e m d f h (SendsAgain master now old) = absurd master
slave_sound ss e m d f h ResetsItself = record { no_session = λ k. record { none_sent = refl; none_taken = refl; none_kept = refl }; is_loaded = λ k. cc }
slave_sound ss e m d f h (DropsReset bytes load master now frame other) = absurd master
slave_sound ss e m d f h (Refuses bytes passed found now fails test) = record { no_session = λ k. record { none_sent = refl; none_taken = refl; none_kept = refl }; is_loaded = λ k. cc }
slave_sound ss e m d f h (PeerResets bytes load now frame) = record { no_session = λ k. record { none_sent = refl; none_taken = refl; none_kept = refl }; is_loaded = λ k. cc }
slave_sound ss e m d f h (Answers bytes load c answer taken) = slave-took ss e bytes load answer c taken
slave_sound ss e m d f h _ = record { no_session = λ k. quiet _ _ _ _ _ e (h.no_session k); is_loaded = h.is_loaded }

-- each run is sound
pub sound_run : (s : Setup) (e : List Deed) → IsRun s e → Sound s e
sound_run (OfMaster ms) [] r = record { no_session = λ k. record { none_sent = refl; none_taken = refl; none_kept = refl }; is_loaded = tt }
sound_run (OfSlave ss) [] r = record { no_session = λ k. record { none_sent = refl; none_taken = refl; none_kept = refl }; is_loaded = λ k. cc }
sound_run (OfMaster ms) (x ∷ e) r =
    let d : Deed = step (OfMaster ms) e x.what in
    let h : Sound (OfMaster ms) e = sound_run (OfMaster ms) e r.1 in
    subst (λ (x : Deed). Sound (OfMaster ms) (x ∷ e)) (sym r.0.stepped) (master_sound ms e d.what d.did d.sent h (next_reaction (OfMaster ms) e x.what h r.0.proper))
sound_run (OfSlave ss) (x ∷ e) r =
    let d : Deed = step (OfSlave ss) e x.what in
    let h : Sound (OfSlave ss) e = sound_run (OfSlave ss) e r.1 in
    subst (λ (x : Deed). Sound (OfSlave ss) (x ∷ e)) (sym r.0.stepped) (slave_sound ss e d.what d.did d.sent h (next_reaction (OfSlave ss) e x.what h r.0.proper))

-- in each run, the next deed is one of the reactions
pub reacts : (s : Setup) (e : List Deed) (m : Move) → IsRun s e → IsProper s m → IsReaction s e (step s e m)
reacts s e m r proper = next_reaction s e m (sound_run s e r) proper

pub outside_session : (s : Setup) (e : List Deed) → IsRun s e → state_of s e ≡ state.Reset → HasNoSession e
outside_session s e r now = let h : Sound s e = sound_run s e r in h.no_session now

pub loaded : (ss : SlaveSettings) (e : List Deed) → IsRun (OfSlave ss) e → state_of (OfSlave ss) e ≡ state.Data → upload_is_whole ss state.Parameter e ≡ true
loaded ss e r now = let h : Sound (OfSlave ss) e = sound_run (OfSlave ss) e r in h.is_loaded now

-- each deed of a run is one of the reactions
pub reacted : (s : Setup) (x : Deed) (e : List Deed) → IsRun s (x ∷ e) → IsReaction s e x
reacted s x e r = subst (λ (x : Deed). IsReaction s e x) (sym r.0.stepped) (reacts s e x.what r.1 r.0.proper)

-- a frame that was taken is answered
pub answer_sent : (e : List Deed) (bytes load : List ℕ) (s : Setup) (c : Command) (answer : List ℕ) → Taking e bytes load s c answer → is_empty answer ≡ false
answer_sent e bytes load s c answer h = grind arith
