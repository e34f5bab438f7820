-- A frame that passes all tests is taken and answered.
use Rattle.exchange_model.proofs.Common.{Command, Deed, IsResetFrame, IsValid, MasterSettings, OfMaster, OfSlave, Setup, SlaveSettings, State, Valid, Verdict, answer, deed_of, download_frame, judged, on_verdict, parts, received, reset_frame, sends, state_of, step, takes_frame, verdict}
use Rattle.std.proofs.Common.{◌≡◌, ◌≢◌, ℕ, List, ◌∷◌, Some, ap, ◌∙◌, arith, rules}
use Rattle.fsoe_base.specs.declared.command.State.TheVariants as state
use Rattle.fsoe_base.specs.declared.command.Command.TheVariants as command
use Rattle.seq_chain.specs.Opened.{command_opened}
use Rattle.param_load.specs.declared.entry.Move.TheVariants as move
use Rattle.end_model.proofs.Again.{read_verdict, reset_verdict}

valid-verdict : (s : Setup) (e : List Deed) (bytes load : List ℕ) (c : Command) → c ≢ command.Reset → IsValid s e bytes c load → verdict s e bytes ≡ Valid c load
valid-verdict s e bytes load c n v = read_verdict s e bytes (Some c) v.is_read ∙ (by-command c n v ∙ ap (Valid c) v.load_is)
  where
    by-command : (c : Command) → c ≢ command.Reset → IsValid s e bytes c load → judged s e (command_opened (parts s bytes) (Some c)) ≡ Valid c (parts s bytes).load
    by-command c h k = grind arith

-- the deed that takes a frame and answers it
abbrev pub taking : Setup → List Deed → List ℕ → Command → List ℕ → Deed
taking s e bytes c load = record { what = move.Deliver bytes; did = takes_frame c load; sent = answer s (received bytes c load e) (record { command = c; load = load }) }

-- a valid frame of a session is taken
pub takes_valid : (s : Setup) (e : List Deed) (bytes load : List ℕ) (c : Command) → c ≢ command.Reset → IsValid s e bytes c load → step s e (move.Deliver bytes) ≡ taking s e bytes c load
takes_valid s e bytes load c n v = ap (λ (v : Verdict). deed_of s e (move.Deliver bytes) (on_verdict (state_of s e) s v)) (valid-verdict s e bytes load c n v) ∙ by-command c n
  where
    by-command : (c : Command) → c ≢ command.Reset → deed_of s e (move.Deliver bytes) (on_verdict (state_of s e) s (Valid c load)) ≡ taking s e bytes c load
    by-command c h = grind arith

-- a slave in state Reset takes a Reset frame
pub slave_rejoins : (ss : SlaveSettings) (e : List Deed) (bytes load : List ℕ) → state_of (OfSlave ss) e ≡ state.Reset → IsResetFrame (OfSlave ss) e bytes load
    → step (OfSlave ss) e (move.Deliver bytes) ≡ record { what = move.Deliver bytes; did = takes_frame command.Reset load; sent = reset_frame 0 (sends (OfSlave ss)) }
slave_rejoins ss e bytes load h k = search (rules, reset_verdict)

-- a master in state Reset takes the Reset frame with code 0
pub master_starts : (ms : MasterSettings) (e : List Deed) (bytes more : List ℕ) → state_of (OfMaster ms) e ≡ state.Reset → IsResetFrame (OfMaster ms) e bytes (0 ∷ more)
    → step (OfMaster ms) e (move.Deliver bytes)
    ≡ record { what = move.Deliver bytes; did = takes_frame command.Reset (0 ∷ more); sent = download_frame ms (received bytes command.Reset (0 ∷ more) e) command.Session 1 }
master_starts ms e bytes more now v =
    ap (λ (v : Verdict). deed_of (OfMaster ms) e (move.Deliver bytes) (on_verdict (state_of (OfMaster ms) e) (OfMaster ms) v)) (reset_verdict (OfMaster ms) e bytes (0 ∷ more) v)
    ∙ ap (λ (p : State). deed_of (OfMaster ms) e (move.Deliver bytes) (on_verdict p (OfMaster ms) (Valid command.Reset (0 ∷ more)))) now
