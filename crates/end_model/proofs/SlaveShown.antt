-- The outputs of a slave are those that looking back gives.
use Rattle.end_model.proofs.Common.{Ages, Answers, Command, Deed, Did, DropsReset, Expires, IsInSession, IsValid, Move, OfSlave, PeerResets, Reaction, Refuses, ResetsItself, Rests, SendsAgain, SlaveFirstData, SlaveGoesOn, SlaveMoreData, SlaveNextPhase, SlaveRejoins, SlaveSettings, SlaveStarts, Taking, id_len, joined_watchdog, number_at, out_after, outputs, parts, phase_of, piece_len, rule_len, slave_limit, state_of, takes_frame, ticks, upload_is_whole, uploaded, whole, zeros}
use Rattle.std.proofs.Common.{◌≡◌, ◌≢◌, ℕ, suc, ◌+◌, ◌<◌, ◌≤◌, List, [], ◌∷◌, ◌++◌, length, take, drop, true, nat_lt, refl, subst, ◌∙◌, arith, rules}
use Rattle.fsoe_base.specs.declared.command.State.TheVariants as state
use Rattle.fsoe_base.specs.declared.command.Command.TheVariants as command
use Rattle.param_load.specs.declared.contents.Expected.TheVariants as expected
use Rattle.param_load.specs.declared.entry.Move.TheVariants as move
use Rattle.end_model.proofs.Runs.{deed}
use Rattle.end_model.proofs.Counted.{joined_count}
use Rattle.end_model.proofs.SoundRuns.{handshake-on, handshake-data, next-on, next-data, data-on}
use Rattle.end_model.proofs.MasterShown.{shown_in, shown-zeros}

-- the parameters that were uploaded so far
abbrev pub parameters : SlaveSettings → List Deed → List ℕ
parameters ss e = uploaded ss state.Parameter e

-- what is known of uploaded parameters by their tests: the watchdog isn't 0, and the number of application parameters
-- is the rule's
pub record IsTested (ss : SlaveSettings) (u : List ℕ) : Type 0 where
  pub watchdog : 4 ≤ length u → 0 < number_at 2 u
  pub counted : id_len ss.profile + 4 ≤ length u → number_at (id_len ss.profile + 2) u ≡ rule_len ss.rule

pub none_tested : (ss : SlaveSettings) → IsTested ss []
none_tested ss = record { watchdog = λ k. absurd (omega (arith, k)); counted = λ k. absurd (omega (arith, k)) }

-- what looking back past n ticks gives
pub record SlaveShows (ss : SlaveSettings) (e : List Deed) : Type 0 where
  pub outs : (n : ℕ) → out_after (OfSlave ss) n e ≡ shown_in (OfSlave ss) (state_of (OfSlave ss) e) (nat_lt (n + ticks (OfSlave ss) e) (slave_limit ss (parameters ss e))) (outputs (OfSlave ss) e)
  pub young : state_of (OfSlave ss) e ≡ state.Data → ticks (OfSlave ss) e < slave_limit ss (parameters ss e)
  pub none : state_of (OfSlave ss) e ≢ state.Data → outputs (OfSlave ss) e ≡ zeros (OfSlave ss)
  pub tested : IsTested ss (parameters ss e)

pub record Limits (ss : SlaveSettings) (u : List ℕ) : Type 0 where
  pub limit_is : slave_limit ss u ≡ number_at 2 u
  pub some : 0 < slave_limit ss u

pub limits : (ss : SlaveSettings) (u : List ℕ) → IsTested ss u → whole ss.profile state.Parameter u ≡ true → Limits ss u
limits ss u h k = grind arith

-- a watchdog that comes with a frame was tested
tested-more : (ss : SlaveSettings) (e : List Deed) (bytes load : List ℕ) → IsTested ss (parameters ss e) → IsValid (OfSlave ss) e bytes command.Parameter load → IsTested ss (parameters ss e ++ take (piece_len (OfSlave ss)) load)
tested-more ss e bytes load t a =
    let u : List ℕ = parameters ss e in
    let more : List ℕ = take (piece_len (OfSlave ss)) (parts (OfSlave ss) bytes).load in
    let rest : List ℕ = drop (piece_len (OfSlave ss)) (parts (OfSlave ss) bytes).load in
    subst (λ (load : List ℕ). IsTested ss (parameters ss e ++ take (piece_len (OfSlave ss)) load)) a.load_is (record {
      watchdog = joined_watchdog (expected.Parameter ss.most (rule_len ss.rule) ss.profile) ss.rule u more rest t.watchdog a.is_sound;
      counted = joined_count ss.most (rule_len ss.rule) ss.profile ss.rule u more rest t.counted a.is_sound;
    })

-- a slave takes a frame of a session; data after the whole parameters
slave-taken : (ss : SlaveSettings) (e : List Deed) (bytes load : List ℕ) (c : Command) (f : List ℕ) → SlaveShows ss e → IsValid (OfSlave ss) e bytes c load → IsInSession f → (phase_of c ≡ state.Data → upload_is_whole ss state.Parameter e ≡ true) → phase_of c ≢ state.Reset
    → SlaveShows ss (deed (move.Deliver bytes) (takes_frame c load) f ∷ e)
slave-taken ss e bytes load c f h k l m n = search (rules, tested-more, limits, shown-zeros)

pub slave-took : (ss : SlaveSettings) (e : List Deed) (bytes load : List ℕ) (c : Command) (f : List ℕ) → SlaveShows ss e → Taking e bytes load (OfSlave ss) c f → SlaveShows ss (deed (move.Deliver bytes) (takes_frame c load) f ∷ e)
slave-took ss e bytes load c f h (SlaveRejoins _ now none frame) = record { outs = λ n. refl; young = λ k. cc; none = λ k. refl; tested = none_tested ss }
slave-took ss e bytes load c f h (SlaveStarts _ _ now none x) = slave-taken ss e bytes load command.Session f h x.valid x.in_session (λ d. cc) (λ k. cc)
slave-took ss e bytes load c f h (SlaveGoesOn _ _ _ is now part x) = slave-taken ss e bytes load c f h x.valid x.in_session (λ d. absurd (handshake-data c is d)) (handshake-on c is)
slave-took ss e bytes load c f h (SlaveNextPhase _ before _ _ is now whole x) = slave-taken ss e bytes load c f h x.valid x.in_session (λ d. absurd (next-data before c is d)) (next-on before c is)
slave-took ss e bytes load c f h (SlaveFirstData _ _ _ is now whole x) = slave-taken ss e bytes load c f h x.valid x.in_session (λ d. whole) (data-on c is)
slave-took ss e bytes load c f h (SlaveMoreData _ _ _ is now whole x) = slave-taken ss e bytes load c f h x.valid x.in_session (λ d. whole) (data-on c is)

pub slave-shows : (ss : SlaveSettings) (e : List Deed) (m : Move) (d : Did) (f : List ℕ) → SlaveShows ss e → Reaction (OfSlave ss) e m d f → SlaveShows ss (deed m d f ∷ e)
slave-shows ss e m d f h (Rests slave now) = record { outs = λ n. h.outs (suc n) ∙ simp now; young = simp now (λ k. cc); none = h.none; tested = h.tested }
slave-shows ss e m d f h (Ages counts y) =
    search (rules, ticks)
slave-shows ss e m d f h (Expires now old) = record { outs = λ n. refl; young = λ k. cc; none = λ k. refl; tested = none_tested ss }
slave-shows ss e m d f h (SendsAgain master now old) = absurd master
slave-shows ss e m d f h ResetsItself = record { outs = λ n. refl; young = λ k. cc; none = λ k. refl; tested = none_tested ss }
slave-shows ss e m d f h (DropsReset bytes load master now frame other) = absurd master
slave-shows ss e m d f h (Refuses bytes passed found now fails test) = record { outs = λ n. refl; young = λ k. cc; none = λ k. refl; tested = none_tested ss }
slave-shows ss e m d f h (PeerResets bytes load now frame) = record { outs = λ n. refl; young = λ k. cc; none = λ k. refl; tested = none_tested ss }
slave-shows ss e m d f h (Answers bytes load c answer taken) = slave-took ss e bytes load c f h taken
slave-shows ss e m d f h _ = record { outs = h.outs; young = h.young; none = h.none; tested = h.tested }
