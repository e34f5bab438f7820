-- The outputs of an end are those that looking back gives, and zeros outside Data.
use Rattle.end_model.proofs.Common.{Deed, IsRun, MasterSettings, OfMaster, OfSlave, Setup, SlaveSettings, State, lt-ltb, out, outputs, slave_limit, state_of, ticks, zeros}
use Rattle.std.proofs.Common.{◌≡◌, ◌≢◌, ℕ, ◌+◌, ◌<◌, List, [], ◌∷◌, Bool, true, nat_lt, refl, sym, ◌∙◌, arith, rules}
use Rattle.fsoe_base.specs.declared.command.State.TheVariants as state
use Rattle.end_model.proofs.SoundRuns.{reacted}
use Rattle.end_model.proofs.MasterShown.{MasterShows, shown_in, master-shows}
use Rattle.end_model.proofs.SlaveShown.{SlaveShows, none_tested, parameters, slave-shows}

master-run : (ms : MasterSettings) (e : List Deed) → IsRun (OfMaster ms) e → MasterShows ms e
master-run ms [] r = record { outs = λ n. refl; young = λ k. cc; none = λ k. refl }
master-run ms (x ∷ e) r = master-shows ms e x.what x.did x.sent (master-run ms e r.1) (reacted (OfMaster ms) x e r)

pub slave-run : (ss : SlaveSettings) (e : List Deed) → IsRun (OfSlave ss) e → SlaveShows ss e
slave-run ss [] r = record { outs = λ n. refl; young = λ k. cc; none = λ k. refl; tested = none_tested ss }
slave-run ss (x ∷ e) r = slave-shows ss e x.what x.did x.sent (slave-run ss e r.1) (reacted (OfSlave ss) x e r)

-- what is shown while the watchdog hasn't expired
shown : (s : Setup) (now : State) (b : Bool) (load : List ℕ) → (now ≡ state.Data → b ≡ true) → (now ≢ state.Data → load ≡ zeros s) → load ≡ shown_in s now b load
shown s now b load h k = grind arith

pub looking_back : (s : Setup) (e : List Deed) → IsRun s e → outputs s e ≡ out s e
looking_back (OfMaster ms) e r =
    let h : MasterShows ms e = master-run ms e r in
    shown (OfMaster ms) (state_of (OfMaster ms) e) (nat_lt (0 + ticks (OfMaster ms) e) ms.watchdog) (outputs (OfMaster ms) e) (λ k. let t : ticks (OfMaster ms) e < ms.watchdog = h.young k in lt-ltb (0 + ticks (OfMaster ms) e) ms.watchdog (omega arith)) h.none ∙ sym (h.outs 0)
looking_back (OfSlave ss) e r =
    let h : SlaveShows ss e = slave-run ss e r in
    shown (OfSlave ss) (state_of (OfSlave ss) e) (nat_lt (0 + ticks (OfSlave ss) e) (slave_limit ss (parameters ss e))) (outputs (OfSlave ss) e) (λ k. let t : ticks (OfSlave ss) e < slave_limit ss (parameters ss e) = h.young k in lt-ltb (0 + ticks (OfSlave ss) e) (slave_limit ss (parameters ss e)) (omega arith)) h.none ∙ sym (h.outs 0)

pub fail_safe : (s : Setup) (e : List Deed) → IsRun s e → state_of s e ≢ state.Data → outputs s e ≡ zeros s
fail_safe s e h k = search (rules, master-run, slave-run)
