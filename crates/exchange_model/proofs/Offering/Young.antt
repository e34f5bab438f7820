-- An end takes data before its watchdog expires: the watchdog in the terms that it tells then.
use Rattle.exchange_model.proofs.Common.{Answers, Command, Deed, Did, IsRun, Move, OfSlave, Reaction, Setup, SlaveFirstData, SlaveGoesOn, SlaveMoreData, SlaveNextPhase, SlaveSettings, State, Taking, Took, data_after, data_taken, handshake-data, is_data, next-data, phase_of_data, state_of, terms, ticked, ticks, upload_is_whole, whole, with_answer}
use Rattle.end_model.specs.Reactions.{IsInSession}
use Rattle.std.proofs.Common.{◌≡◌, ◌≢◌, ℕ, ◌<◌, List, ◌∷◌, Bool, true, Some, None, if◌then◌else◌, refl, sym, ◌∙◌, arith, rules}
use Rattle.fsoe_base.specs.declared.command.State.TheVariants as state
use Rattle.end_model.proofs.AgeBelow.{age_below}
use Rattle.exchange_model.proofs.Alone.Pieces.{deed}

slave-young : (ss : SlaveSettings) (e : List Deed) (bytes load f : List ℕ) (c : Command) → IsRun (OfSlave ss) e → is_data c ≡ true → state_of (OfSlave ss) e ≢ state.Reset → upload_is_whole ss state.Parameter e ≡ true → IsInSession f
    → ticks (OfSlave ss) e < (terms (OfSlave ss) (with_answer bytes c load f e)).watchdog
slave-young ss e bytes load f c h k l m n = search (rules, age_below)

in-state : (s : Setup) (e : List Deed) (p : State) → state_of s e ≡ p → p ≢ state.Reset → state_of s e ≢ state.Reset
in-state s e p h n = λ k. n (sym h ∙ k)

slave-takes : (ss : SlaveSettings) (e : List Deed) (bytes load f : List ℕ) (c : Command) → IsRun (OfSlave ss) e → is_data c ≡ true → Taking e bytes load (OfSlave ss) c f
    → ticks (OfSlave ss) e < (terms (OfSlave ss) (with_answer bytes c load f e)).watchdog
slave-takes ss e bytes load f c r d (SlaveGoesOn _ _ _ is now part x) = absurd (handshake-data c is (phase_of_data c d))
slave-takes ss e bytes load f c r d (SlaveNextPhase _ before _ _ is now whole x) = absurd (next-data before c is (phase_of_data c d))
slave-takes ss e bytes load f c r d (SlaveFirstData _ _ _ is now whole x) = slave-young ss e bytes load f c r d (in-state (OfSlave ss) e state.Parameter now (λ k. cc)) whole x.in_session
slave-takes ss e bytes load f c r d (SlaveMoreData _ _ _ is now whole x) = slave-young ss e bytes load f c r d (in-state (OfSlave ss) e state.Data now (λ k. cc)) whole x.in_session
slave-takes ss e bytes load f c r d _ = absurd (cc d)

takes-young : (s : Setup) (e : List Deed) (bytes load f : List ℕ) (c : Command) → IsRun s e → is_data c ≡ true → Taking e bytes load s c f → ticks s e < (terms s (with_answer bytes c load f e)).watchdog
takes-young s e bytes load f c h k l = search (rules, age_below, slave-takes)

-- a deed that takes data: its end is in Data then, the watchdog had not expired before, and the deed is no tick
pub record TakesYoung (s : Setup) (e : List Deed) (x : Deed) : Type 0 where
  pub in_data : state_of s (x ∷ e) ≡ state.Data
  pub young : ticks s e < (terms s (x ∷ e)).watchdog
  pub no_tick : (n : ℕ) → ticked x.what n ≡ n

some-data : (b : Bool) (t u : Took) → (if b then Some t else None) ≡ Some u → b ≡ true
some-data b t u h = grind arith

pub takes_young : (s : Setup) (e : List Deed) (m : Move) (d : Did) (f : List ℕ) (t : Took) → IsRun s e → Reaction s e m d f → data_taken d.took ≡ Some t → TakesYoung s e (deed m d f)
takes_young s e m d f t r (Answers bytes load c answer taking) h =
    let some : is_data c ≡ true = some-data (is_data c) (record { command = c; load = load }) t h in
    record { in_data = data_after e bytes load s c answer taking some; young = takes-young s e bytes load answer c r some taking; no_tick = λ n. refl }
takes_young s e m d f t r _ h = cc
