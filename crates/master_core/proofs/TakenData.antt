-- A data frame that passed the tests of a master: what the machine does is what looking back gives.
use Rattle.master_core.proofs.Common.{Chain, Command, Deed, MasterSettings, OfMaster, Outcome, Phase, ap₃, answered_by, begun, bytes_of, chain_after, code, data_answered, data_command, data_load, held, is_process, is_reset, judged_contents, kit_of, length-replicate, notes_of, offer, on_verdict, session_of, settles, since, takes_frame, terms_of, unless, view_in, with_data}
use Rattle.std.proofs.Common.{◌≡◌, ℕ, Bool, true, false, List, ◌∷◌, length, replicate, Ok, Err, if◌then◌else◌, refl, sym, ap, ◌∙◌, arith}
use Rattle.fsoe_base.specs.declared.command.Command.TheVariants as command
use Rattle.fsoe_base.specs.declared.command.State.TheVariants as state
use Rattle.fsoe_base.specs.declared.did.Cause.TheVariants as cause
use Rattle.param_load.specs.declared.entry.Move.TheVariants as move
use Rattle.master_core.specs.declared.phase.Phase.TheVariants as phase
use Rattle.master_core.specs.declared.states.InData.{InData}
use Rattle.master_core.proofs.Sound.{Sound}
use Rattle.master_core.proofs.SameVerdict.{came, seen}
use Rattle.master_core.proofs.Agrees.{Agrees, master_at, same_master, resets-agree}
use Rattle.master_core.proofs.Taking.{After, Arrived, next_frame, next_chain, takes-agree}

-- state Data by what changes in it
abbrev data_at : MasterSettings → Chain → List ℕ → List ℕ → Phase
data_at ms chain outputs last = phase.Data (record { session = record { chain = chain; last = last }; terms = terms_of ms; outputs = outputs })

-- a data frame is the offer, or zeros while the master is held
by-held : (ms : MasterSettings) (e : List Deed) (bytes : List ℕ) (h : Bool) (n : ℕ) (load : List ℕ) → n ≡ ms.lengths.master
    → (if h then next_frame ms e bytes ms.conn command.FailSafeData (replicate ms.lengths.master 0) else next_frame ms e bytes ms.conn command.ProcessData load)
    ≡ next_frame ms e bytes ms.conn (if h then command.FailSafeData else command.ProcessData) (if h then replicate n 0 else load)
by-held ms e bytes h n load k = grind arith

pub data_sent : (ms : MasterSettings) (e : List Deed) (bytes : List ℕ) (c : Command) → is_reset c ≡ false → Sound ms e
    → with_data (OfMaster ms) (begun (move.Deliver bytes) (takes_frame c (came ms bytes).load) ∷ e) ≡ next_frame ms e bytes ms.conn (data_command (kit_of ms e).offer) (data_load (kit_of ms e).offer)
data_sent ms e bytes c r s = rw r (by-held ms e bytes (held e) (length (offer (OfMaster ms) e)) (offer (OfMaster ms) e) s.offer_len)

-- what holds once a frame was taken and followed by a data frame with this command and load
abbrev IsNext : MasterSettings → List Deed → List ℕ → Command → List ℕ → Command → List ℕ → Type 0
IsNext ms e bytes c outputs c2 load = After ms e bytes c (next_frame ms e bytes ms.conn c2 load)
    (master_at (kit_of ms e)
    (data_at ms (next_chain ms e bytes ms.conn c2 load) outputs (bytes_of (came ms bytes)))
    ms.watchdog 0)

-- the outputs are then those that the frame brings
abbrev Brings : MasterSettings → List ℕ → Command → List ℕ → Type 0
Brings ms bytes c outputs = (if is_process c then (came ms bytes).load else replicate ms.lengths.slave 0) ≡ outputs

by-offer : (ms : MasterSettings) (e : List Deed) (bytes : List ℕ) (c : Command) (outputs : List ℕ) (h : Bool) (n : ℕ) (load : List ℕ) → is_reset c ≡ false → Brings ms bytes c outputs → n ≡ ms.lengths.master → length load ≡ ms.lengths.master
    → Arrived ms bytes → Sound ms e → IsNext ms e bytes c outputs (if h then command.FailSafeData else command.ProcessData) (if h then replicate n 0 else load)
by-offer ms e bytes c outputs true n load r o i h a s = record {
  view = λ b. same_master _ _ _ _ _ _ _ refl (ap₃ (data_at ms) (chain_after (OfMaster ms) (since e) bytes c ms.conn command.FailSafeData (replicate n 0) r (length-replicate n 0 ∙ i)) o (sym (a.back b))) refl;
  sound = record { in_state = refl; offer_len = s.offer_len; young = ms.some_watchdog };
}
by-offer ms e bytes c outputs false n load r o i h a s = record {
  view = λ b. same_master _ _ _ _ _ _ _ refl (ap₃ (data_at ms) (chain_after (OfMaster ms) (since e) bytes c ms.conn command.ProcessData load r h) o (sym (a.back b))) refl;
  sound = record { in_state = refl; offer_len = s.offer_len; young = ms.some_watchdog };
}

-- the data frame that follows is the offer, or zeros
pub data_after : (ms : MasterSettings) (e : List Deed) (bytes : List ℕ) (c : Command) (outputs : List ℕ) → is_reset c ≡ false → Brings ms bytes c outputs → Arrived ms bytes → Sound ms e
    → IsNext ms e bytes c outputs (data_command (kit_of ms e).offer) (data_load (kit_of ms e).offer)
data_after ms e bytes c outputs r o a s = by-offer ms e bytes c outputs (held e) (length (offer (OfMaster ms) e)) (offer (OfMaster ms) e) r o s.offer_len s.offer_len a s

-- state Data before the frame
abbrev before : MasterSettings → List Deed → InData
before ms e = record { session = session_of (notes_of ms e); terms = terms_of ms; outputs = (notes_of ms e).outputs }

abbrev data_outcome : MasterSettings → List Deed → List ℕ → Command → Bool → Outcome
data_outcome ms e bytes c b = answered_by (settles (view_in state.Data ms e) (seen ms bytes c) (if b then Ok (phase.Data (data_answered (before ms e) (seen ms bytes c))) else Err (code 0x07)))

-- a ProcessData frame that passed the tests
pub process-passed : (ms : MasterSettings) (e : List Deed) (bytes : List ℕ) → Arrived ms bytes → Sound ms e
    → Agrees ms e (move.Deliver bytes) (takes_frame command.ProcessData (came ms bytes).load) (data_outcome ms e bytes command.ProcessData true)
process-passed ms e bytes a s =
    takes-agree ms e bytes command.ProcessData (data_outcome ms e bytes command.ProcessData true) (data_after ms e bytes command.ProcessData _ refl refl a s) refl (data_sent ms e bytes command.ProcessData refl s)

-- a FailSafeData frame that passed the tests
pub failsafe-passed : (ms : MasterSettings) (e : List Deed) (bytes : List ℕ) (b : Bool) → Arrived ms bytes → Sound ms e
    → Agrees ms e (move.Deliver bytes) (on_verdict state.Data (OfMaster ms) (judged_contents command.FailSafeData (came ms bytes).load (unless b 0x07))) (data_outcome ms e bytes command.FailSafeData b)
failsafe-passed ms e bytes false a s = resets-agree state.Data ms e (move.Deliver bytes) true (cause.Found (code 0x07)) refl s
failsafe-passed ms e bytes true a s =
    takes-agree ms e bytes command.FailSafeData (data_outcome ms e bytes command.FailSafeData true)
    (data_after ms e bytes command.FailSafeData _ refl (ap (λ (n : ℕ). replicate n 0) (sym a.load_len)) a s) refl (data_sent ms e bytes command.FailSafeData refl s)
