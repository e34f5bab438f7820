-- In each run the age is below the limit.
use Rattle.end_model.proofs.Common.{Ages, Answers, Command, Deed, Did, DropsReset, Expires, IsRun, MasterSettings, Move, OfMaster, OfSlave, PeerResets, Reaction, Refuses, ResetsItself, Rests, SendsAgain, Setup, SlaveSettings, State, age, is_empty, limit, slave_age, state_of, ticks, with_answer}
use Rattle.std.proofs.Common.{◌≡◌, ◌≢◌, ◌<◌, ℕ, suc, List, [], ◌∷◌, false, arith}
use Rattle.fsoe_base.specs.declared.command.State.TheVariants as state
use Rattle.end_model.proofs.Runs.{deed}
use Rattle.end_model.proofs.Shown.{slave-run}
use Rattle.end_model.proofs.SoundRuns.{reacted, answer_sent}

-- no limit is 0
pub has_limit : (s : Setup) (e : List Deed) → IsRun s e → 0 < limit s e
has_limit s e h = grind (arith, slave-run)

-- a frame that was sent begins the count of ticks
no-ticks : (s : Setup) (e : List Deed) (bytes load : List ℕ) (c : Command) (answer : List ℕ) → is_empty answer ≡ false → ticks s (with_answer bytes c load answer e) ≡ 0
no-ticks s e bytes load c answer h = simp h

master-below : (ms : MasterSettings) (e : List Deed) (m : Move) (d : Did) (f : List ℕ) → ticks (OfMaster ms) e < ms.watchdog → Reaction (OfMaster ms) e m d f → ticks (OfMaster ms) (deed m d f ∷ e) < ms.watchdog
master-below ms e m d f h k = grind arith

-- the age of a slave, at a variable for its state
resting : (now : State) (n l : ℕ) → now ≡ state.Reset → 0 < l → slave_age now n < l
resting now n l h k = grind arith

older : (now : State) (n l : ℕ) → now ≢ state.Reset → suc (slave_age now n) < l → slave_age now (suc n) < l
older now n l h k = grind arith

fresh : (now : State) (n l : ℕ) → n ≡ 0 → 0 < l → slave_age now n < l
fresh now n l h k = grind arith

slave-below : (ss : SlaveSettings) (e : List Deed) (m : Move) (d : Did) (f : List ℕ) → age (OfSlave ss) e < limit (OfSlave ss) e → 0 < limit (OfSlave ss) (deed m d f ∷ e) → Reaction (OfSlave ss) e m d f
    → age (OfSlave ss) (deed m d f ∷ e) < limit (OfSlave ss) (deed m d f ∷ e)
slave-below ss e m d f h p (Rests slave now) = resting (state_of (OfSlave ss) e) (suc (ticks (OfSlave ss) e)) (limit (OfSlave ss) e) now p
slave-below ss e m d f h p (Ages counts young) = older (state_of (OfSlave ss) e) (ticks (OfSlave ss) e) (limit (OfSlave ss) e) counts young
slave-below ss e m d f h p (Expires now old) = p
slave-below ss e m d f h p (SendsAgain master now old) = absurd master
slave-below ss e m d f h p ResetsItself = p
slave-below ss e m d f h p (DropsReset bytes load master now frame other) = absurd master
slave-below ss e m d f h p (Refuses bytes passed found now fails test) = p
slave-below ss e m d f h p (PeerResets bytes load now frame) = p
slave-below ss e m d f h p (Answers bytes load c answer taken) =
    fresh (state_of (OfSlave ss) (with_answer bytes c load answer e)) (ticks (OfSlave ss) (with_answer bytes c load answer e)) (limit (OfSlave ss) (with_answer bytes c load answer e))
    (no-ticks (OfSlave ss) e bytes load c answer (answer_sent e bytes load (OfSlave ss) c answer taken)) p
slave-below ss e m d f h p _ = h

-- the age doesn't reach the limit
pub age_below : (s : Setup) (e : List Deed) → IsRun s e → age s e < limit s e
age_below (OfMaster ms) [] r = let p : 0 < ms.watchdog = ms.some_watchdog in omega arith
age_below (OfSlave ss) [] r = has_limit (OfSlave ss) [] r
age_below (OfMaster ms) (x ∷ e) r = master-below ms e x.what x.did x.sent (age_below (OfMaster ms) e r.1) (reacted (OfMaster ms) x e r)
age_below (OfSlave ss) (x ∷ e) r = slave-below ss e x.what x.did x.sent (age_below (OfSlave ss) e r.1) (has_limit (OfSlave ss) (x ∷ e) r) (reacted (OfSlave ss) x e r)

-- a slave in state Reset counts no ticks
pub no_age_in_reset : (ss : SlaveSettings) (e : List Deed) → state_of (OfSlave ss) e ≡ state.Reset → age (OfSlave ss) e ≡ 0
no_age_in_reset ss e now = simp now
