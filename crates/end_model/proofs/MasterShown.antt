-- The outputs of a master are those that looking back gives.
use Rattle.end_model.proofs.Common.{Ages, Answers, Command, Deed, Did, Expires, IsInSession, MasterFirstData, MasterGoesOn, MasterMoreData, MasterNextPhase, MasterSettings, MasterStarts, Move, OfMaster, PeerResets, Reaction, Refuses, ResetsItself, Rests, SendsAgain, Setup, State, Taking, out_after, outputs, phase_of, phase_of_frame, received, state_of, takes_frame, ticks, with_data, zeros}
use Rattle.std.proofs.Common.{◌≡◌, ◌≢◌, ℕ, suc, ◌+◌, ◌<◌, List, ◌∷◌, Bool, true, nat_lt, refl, sym, subst, ◌∙◌, arith}
use Rattle.fsoe_base.specs.declared.command.State.TheVariants as state
use Rattle.fsoe_base.specs.declared.command.Command.TheVariants as command
use Rattle.param_load.specs.declared.entry.Move.TheVariants as move
use Rattle.end_model.proofs.Runs.{deed}
use Rattle.end_model.proofs.Heads.{data_phase}
use Rattle.end_model.proofs.SoundRuns.{handshake-data, before-data}

-- what is shown in a state, where the watchdog hasn't expired
abbrev pub shown_in : Setup → State → Bool → List ℕ → List ℕ
shown_in s state.Data true load = load
shown_in s _ _ load = zeros s

pub shown-zeros : (s : Setup) (now : State) (b : Bool) → shown_in s now b (zeros s) ≡ zeros s
shown-zeros s now b = grind arith

-- what looking back past n ticks gives
pub record MasterShows (ms : MasterSettings) (e : List Deed) : Type 0 where
  pub outs : (n : ℕ) → out_after (OfMaster ms) n e ≡ shown_in (OfMaster ms) (state_of (OfMaster ms) e) (nat_lt (n + ticks (OfMaster ms) e) ms.watchdog) (outputs (OfMaster ms) e)
  pub young : state_of (OfMaster ms) e ≡ state.Data → ticks (OfMaster ms) e < ms.watchdog
  pub none : state_of (OfMaster ms) e ≢ state.Data → outputs (OfMaster ms) e ≡ zeros (OfMaster ms)

-- a master takes a frame, and is in Data then where it took ProcessData
master-taken : (ms : MasterSettings) (e : List Deed) (bytes load : List ℕ) (c : Command) (f : List ℕ) → IsInSession f → (phase_of c ≡ state.Data → phase_of_frame f ≡ state.Data) → MasterShows ms (deed (move.Deliver bytes) (takes_frame c load) f ∷ e)
master-taken ms e bytes load c f h k = grind arith

-- data are answered by data
data-answer : (ms : MasterSettings) (e : List Deed) (f : List ℕ) → f ≡ with_data (OfMaster ms) e → phase_of_frame f ≡ state.Data
data-answer ms e f h = subst (λ (f : List ℕ). phase_of_frame f ≡ state.Data) (sym h) (data_phase (OfMaster ms) e)

master-took : (ms : MasterSettings) (e : List Deed) (bytes load : List ℕ) (c : Command) (f : List ℕ) → Taking e bytes load (OfMaster ms) c f → MasterShows ms (deed (move.Deliver bytes) (takes_frame c load) f ∷ e)
master-took ms e bytes load c f (MasterStarts _ _ now none frame zero made sent after) = master-taken ms e bytes load command.Reset f sent (λ k. cc)
master-took ms e bytes load c f (MasterGoesOn _ _ _ is now part x) = master-taken ms e bytes load c f x.in_session (λ k. absurd (handshake-data c is k))
master-took ms e bytes load c f (MasterNextPhase _ _ next _ is now whole x) = master-taken ms e bytes load c f x.in_session (λ k. absurd (before-data c next is k))
master-took ms e bytes load c f (MasterFirstData _ _ now whole x) = master-taken ms e bytes load command.Parameter f x.in_session (λ k. cc)
master-took ms e bytes load c f (MasterMoreData _ _ _ is now x) = master-taken ms e bytes load c f x.in_session (λ k. data-answer ms (received bytes c load e) f x.is_made)

pub master-shows : (ms : MasterSettings) (e : List Deed) (m : Move) (d : Did) (f : List ℕ) → MasterShows ms e → Reaction (OfMaster ms) e m d f → MasterShows ms (deed m d f ∷ e)
master-shows ms e m d f h (Rests slave now) = absurd slave
master-shows ms e m d f h (Ages counts y) =
    record { outs = λ n. let q : suc n + ticks (OfMaster ms) e ≡ n + suc (ticks (OfMaster ms) e) = omega arith in rw (← q) (h.outs (suc n)); young = λ k. y; none = h.none }
master-shows ms e m d f h (Expires now old) = record { outs = λ n. refl; young = λ k. cc; none = λ k. refl }
master-shows ms e m d f h (SendsAgain master now old) = record { outs = λ n. h.outs (suc n) ∙ simp now; young = λ k. cc; none = λ k. refl }
master-shows ms e m d f h ResetsItself = record { outs = λ n. refl; young = λ k. cc; none = λ k. refl }
master-shows ms e m d f h (Refuses bytes passed found now fails test) = record { outs = λ n. refl; young = λ k. cc; none = λ k. refl }
master-shows ms e m d f h (PeerResets bytes load now frame) = record { outs = λ n. refl; young = λ k. cc; none = λ k. refl }
master-shows ms e m d f h (Answers bytes load c answer taken) = master-took ms e bytes load c f taken
master-shows ms e m d f h _ = record { outs = h.outs; young = h.young; none = h.none }
