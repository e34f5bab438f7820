-- A data frame that passed the tests: what the machine does is what looking back gives.
use Rattle.slave_core.proofs.Common.{AreBytes, Chain, Command, Deed, IsRun, OfSlave, Outcome, SlaveSettings, SlaveView, State, answered, ap₃, begun, bytes_of, chain_after, code, command_byte, deed_of, held, is_process, is_reset, is_there, judged_contents, keeps, kit_of, length-replicate, no_session, notes_of, number_at, offer, on_verdict, phase_of, session_of, settles, since, slave_conn, slave_limit, state_of, takes_frame, taking, there, view_in, view_of, whole, with_data}
use Rattle.std.proofs.Common.{◌≡◌, ◌==◌, ℕ, ◌<◌, List, ◌∷◌, length, replicate, Bool, true, false, Some, None, Ok, Err, if◌then◌else◌, refl, sym, ap, subst, ◌∙◌, arith, rules}
use Rattle.fsoe_base.specs.declared.command.Command.TheVariants as command
use Rattle.fsoe_base.specs.declared.command.State.TheVariants as state
use Rattle.failsafe_io.specs.Offer.{data_command, data_load}
use Rattle.failsafe_io.specs.Outputs.{outputs_of}
use Rattle.param_load.specs.declared.entry.Move.TheVariants as move
use Rattle.slave_core.specs.declared.phase.Phase.TheVariants as phase
use Rattle.slave_core.proofs.Sound.{OfParameters, Sound}
use Rattle.slave_core.proofs.SameVerdict.{came, seen}
use Rattle.slave_core.proofs.Agrees.{Agrees, slave_at, same_slave, fault-agrees}
use Rattle.slave_core.proofs.Arrived.{frame_answered, Arrived}
use Rattle.slave_core.proofs.TakenHandshake.{some-limit}

-- the connection id of the terms
abbrev conn_of : SlaveSettings → List Deed → ℕ
conn_of ss e = number_at 0 (notes_of ss e).connection

-- the answer with this command and load
abbrev data_answer : SlaveSettings → List Deed → List ℕ → Command → Command → List ℕ → List ℕ
data_answer ss e bytes c c2 load = frame_answered (notes_of ss e).chain (seen ss bytes c) (conn_of ss e) c2 load

-- the slave after a data frame and this answer
abbrev gone_on : SlaveSettings → List Deed → List ℕ → Command → Command → List ℕ → SlaveView
gone_on ss e bytes c c2 load =
    slave_at (kit_of ss e)
    (phase.Data (record {
      session = answered (session_of (notes_of ss e)) (seen ss bytes c) (conn_of ss e) c2 load;
      terms = (notes_of ss e).terms;
      outputs = outputs_of c (came ss bytes).load;
    }))
    (notes_of ss e).terms.watchdog 0

-- what holds after a data frame and its answer
record After (ss : SlaveSettings) (e : List Deed) (bytes : List ℕ) (c : Command) (sent : List ℕ) (v : SlaveView) : Type 0 where
  view : AreBytes bytes → view_of ss (taking (OfSlave ss) bytes c sent ∷ e) ≡ v
  sound : Sound ss (taking (OfSlave ss) bytes c sent ∷ e)

-- what is known before a data frame
record Ready (ss : SlaveSettings) (e : List Deed) (bytes : List ℕ) : Type 0 where
  sound : Sound ss e
  connected : OfParameters ss (notes_of ss e)
  back : AreBytes bytes → bytes_of (came ss bytes) ≡ bytes
  limit_is : slave_limit ss (notes_of ss e).parameter ≡ (notes_of ss e).terms.watchdog
  some : 0 < slave_limit ss (notes_of ss e).parameter

-- what is known of the command of a data frame
record IsDataFrame (ss : SlaveSettings) (bytes : List ℕ) (c : Command) : Type 0 where
  of_session : is_reset c ≡ false
  phase_is : phase_of c ≡ state.Data
  brings : (if is_process c then (came ss bytes).load else replicate ss.lengths.master 0) ≡ outputs_of c (came ss bytes).load

after : (ss : SlaveSettings) (e : List Deed) (bytes : List ℕ) (c c2 : Command) (load : List ℕ) → (command_byte c2 == command_byte command.Reset) ≡ false → length load ≡ ss.lengths.slave → IsDataFrame ss bytes c → Ready ss e bytes
    → After ss e bytes c (data_answer ss e bytes c c2 load) (gone_on ss e bytes c c2 load)
after ss e bytes c c2 load n h d y =
    let j : OfParameters ss (notes_of ss e) = y.connected in
    record {
      view = λ r. rw (n, d.of_session, d.phase_is) (same_slave _ _ _ _ _ _ _ _ refl (ap₃ (λ (k : Chain) (o l : List ℕ). phase.Data (record { session = record { chain = k; last = l }; terms = (notes_of ss e).terms; outputs = o })) (rw d.of_session at (chain_after (OfSlave ss) (since e) bytes c (conn_of ss e) c2 load d.of_session h)) d.brings (sym (y.back r))) y.limit_is refl);
      sound = search (rules, is_there, keeps, there);
    }

-- an answer is fail-safe data while the slave is held, else its offer
after-held : (ss : SlaveSettings) (e : List Deed) (bytes : List ℕ) (c : Command) (h : Bool) (n : ℕ) → n ≡ ss.lengths.slave → IsDataFrame ss bytes c → Ready ss e bytes
    → After ss e bytes c (data_answer ss e bytes c (if h then command.FailSafeData else command.ProcessData) (if h then replicate n 0 else offer (OfSlave ss) e))
    (gone_on ss e bytes c (if h then command.FailSafeData else command.ProcessData) (if h then replicate n 0 else offer (OfSlave ss) e))
after-held ss e bytes c true n i d y = after ss e bytes c command.FailSafeData (replicate n 0) refl (length-replicate n 0 ∙ i) d y
after-held ss e bytes c false n i d y = after ss e bytes c command.ProcessData (offer (OfSlave ss) e) refl y.sound.offer_len d y

-- it is the one that looking back gives
by-held : (ss : SlaveSettings) (e : List Deed) (bytes : List ℕ) (c : Command) (h : Bool) (load : List ℕ) (k n : ℕ) → k ≡ conn_of ss e → n ≡ ss.lengths.slave
    → (if h then frame_answered (notes_of ss e).chain (seen ss bytes c) k command.FailSafeData (replicate ss.lengths.slave 0) else frame_answered (notes_of ss e).chain (seen ss bytes c) k command.ProcessData load)
    ≡ data_answer ss e bytes c (if h then command.FailSafeData else command.ProcessData) (if h then replicate n 0 else load)
by-held ss e bytes c h load k n l m = grind arith

data-sent : (ss : SlaveSettings) (e : List Deed) (bytes : List ℕ) (c : Command) → is_reset c ≡ false → OfParameters ss (notes_of ss e) → Sound ss e
    → with_data (OfSlave ss) (begun (move.Deliver bytes) (takes_frame c (came ss bytes).load) ∷ e) ≡ data_answer ss e bytes c (data_command (kit_of ss e).offer) (data_load (kit_of ss e).offer)
data-sent ss e bytes c r j s =
    rw r (by-held ss e bytes c (held e) (offer (OfSlave ss) e) _ (length (offer (OfSlave ss) e)) (there _ _ 0 (keeps (slave_conn ss e) _ _ j.conn_is) ∙ sym j.conn_said) s.offer_len)

-- the machine at a data frame whose contents are right, or not
abbrev pub data_settles : Bool → State → SlaveSettings → List Deed → List ℕ → Command → Outcome
data_settles b p ss e bytes c =
    settles (view_in p ss e) (seen ss bytes c)
    (data_answer ss e bytes c (data_command (kit_of ss e).offer) (data_load (kit_of ss e).offer))
    (if b then Ok (phase.Data (record {
      session = answered (session_of (notes_of ss e)) (seen ss bytes c) (conn_of ss e) (data_command (kit_of ss e).offer) (data_load (kit_of ss e).offer);
      terms = (notes_of ss e).terms;
      outputs = outputs_of c (came ss bytes).load;
    })) else Err (no_session, code 0x07))

-- a data frame is taken
taken-agrees : (p : State) (ss : SlaveSettings) (e : List Deed) (bytes : List ℕ) (c : Command) → IsDataFrame ss bytes c → Ready ss e bytes
    → (deed_of (OfSlave ss) e (move.Deliver bytes) (takes_frame c (came ss bytes).load)).sent ≡ data_answer ss e bytes c (data_command (kit_of ss e).offer) (data_load (kit_of ss e).offer)
    → Agrees ss e (move.Deliver bytes) (takes_frame c (came ss bytes).load) (data_settles true p ss e bytes c)
taken-agrees p ss e bytes c d y sent =
    let done : After ss e bytes c _ _ = after-held ss e bytes c (held e) (length (offer (OfSlave ss) e)) y.sound.offer_len d y in
    record {
      view = λ r. ap (λ (f : List ℕ). view_of ss (taking (OfSlave ss) bytes c f ∷ e)) sent ∙ done.view r;
      did = rw d.of_session refl;
      sent = sent;
      sound = subst (λ (f : List ℕ). Sound ss (taking (OfSlave ss) bytes c f ∷ e)) (sym sent) done.sound;
    }

ready : (ss : SlaveSettings) (e : List Deed) (bytes : List ℕ) (c : Command) → Sound ss e → OfParameters ss (notes_of ss e) → Arrived ss bytes c → whole ss.profile state.Parameter (notes_of ss e).parameter ≡ true → IsRun (OfSlave ss) e → Ready ss e bytes
ready ss e bytes c s j a w run = record {
  sound = s;
  connected = j;
  back = a.back;
  limit_is = ap (λ (b : Bool). if b then number_at 2 (notes_of ss e).parameter else ss.hand) w;
  some = some-limit ss e run;
}

pub process-agrees : (p : State) (ss : SlaveSettings) (e : List Deed) (bytes : List ℕ) → Sound ss e → OfParameters ss (notes_of ss e) → Arrived ss bytes command.ProcessData → whole ss.profile state.Parameter (notes_of ss e).parameter ≡ true → IsRun (OfSlave ss) e
    → Agrees ss e (move.Deliver bytes) (takes_frame command.ProcessData (came ss bytes).load) (data_settles true p ss e bytes command.ProcessData)
process-agrees p ss e bytes s j a w run =
    taken-agrees p ss e bytes command.ProcessData (record { of_session = refl; phase_is = refl; brings = refl }) (ready ss e bytes command.ProcessData s j a w run) (data-sent ss e bytes command.ProcessData refl j s)

pub failsafe-agrees : (b : Bool) (p : State) (ss : SlaveSettings) (e : List Deed) (bytes : List ℕ) → state_of (OfSlave ss) e ≡ p → Sound ss e → OfParameters ss (notes_of ss e) → Arrived ss bytes command.FailSafeData → whole ss.profile state.Parameter (notes_of ss e).parameter ≡ true → IsRun (OfSlave ss) e
    → Agrees ss e (move.Deliver bytes) (on_verdict p (OfSlave ss) (judged_contents command.FailSafeData (came ss bytes).load (if b then None else Some (code 0x07)))) (data_settles b p ss e bytes command.FailSafeData)
failsafe-agrees false p ss e bytes at s j a w run = fault-agrees p ss e bytes true (code 0x07) at s
failsafe-agrees true p ss e bytes at s j a w run =
    taken-agrees p ss e bytes command.FailSafeData (record { of_session = refl; phase_is = refl; brings = ap (λ (n : ℕ). replicate n 0) (sym a.load_len) }) (ready ss e bytes command.FailSafeData s j a w run) (data-sent ss e bytes command.FailSafeData refl j s)
