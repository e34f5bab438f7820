-- Each transition of a typed state goes on as looking back says.
use Rattle.slave_core.proofs.Common.{Code, Deed, InReset, KitView, Phase, OfSlave, Outcome, SessionFrameView, SlaveSettings, SlaveView, State, after, did_on, on_fault, refuses, settles, state_of, step, view_in, view_of}
use Rattle.std.proofs.Common.{◌≡◌, ℕ, List, ◌∷◌, Bool, true, false, Result, Ok, Err, IfOk, IfErr, OnOk, OnErr, if◌then◌else◌, refl, sym, ap, ◌∙◌, arith}
use Rattle.param_load.specs.declared.entry.Move.TheVariants as move
use Rattle.slave_core.specs.declared.phase.Phase.TheVariants as phase
use Rattle.slave_core.specs.Taken.{Advances, Meets, IsTaken, IsRefused, GoesOn, Transits, entered, next_in, next_state, reply, reply_in}
use Rattle.slave_core.proofs.Agrees.{Agrees}
use Rattle.slave_core.proofs.Agreed.{agrees, run-sound}

refused-did : (p : State) (ss : SlaveSettings) (e : List Deed) (x : Code) → (refuses (view_in p ss e) true x).did ≡ on_fault p true x
refused-did p ss e x = grind arith

refused-state : (p : State) (ss : SlaveSettings) (e : List Deed) (x : Code) (reset : InReset) → phase.Reset reset ≡ (refuses (view_in p ss e) true x).slave.state
refused-state p ss e x reset = grind arith

-- the outcome of a frame that passed the tests
settled : (ss : SlaveSettings) (e : List Deed) (old : Phase) (kit : KitView) (f : SessionFrameView) (bytes : List ℕ) → Meets ss e old kit f bytes → after (view_of ss e) (move.Deliver bytes) ≡ settles (view_of ss e) f (reply kit old f) (next_state kit old f)
settled ss e old kit f bytes h = grind arith

-- an outcome is what the next deed leaves, does and sends
record IsOutcome (ss : SlaveSettings) (e : List Deed) (bytes : List ℕ) (o : Outcome) : Type 0 where
  view : view_of ss (step (OfSlave ss) e (move.Deliver bytes) ∷ e) ≡ o.slave
  did : (step (OfSlave ss) e (move.Deliver bytes)).did ≡ o.did
  sent : (step (OfSlave ss) e (move.Deliver bytes)).sent ≡ o.sent

outcome-is : (ss : SlaveSettings) (e : List Deed) (old : Phase) (kit : KitView) (f : SessionFrameView) (bytes : List ℕ) → Meets ss e old kit f bytes → IsOutcome ss e bytes (after (view_of ss e) (move.Deliver bytes))
outcome-is ss e old kit f bytes h =
    let a : Agrees ss e (move.Deliver bytes) (did_on (OfSlave ss) e (move.Deliver bytes)) (after (view_of ss e) (move.Deliver bytes)) = agrees ss e (move.Deliver bytes) (run-sound ss e h.reached) h.reached tt in
    record { view = a.view h.bytes_are; did = a.did; sent = a.sent }

ok-by : (ss : SlaveSettings) (e : List Deed) (bytes : List ℕ) (f : SessionFrameView) (answer written : List ℕ) (r : Result Phase (InReset × Code)) (o : Outcome) → OnOk r (written ≡ answer)
    → o ≡ settles (view_of ss e) f answer r → IsOutcome ss e bytes o
    → IfOk r (λ next. IsTaken ss e bytes f next written)
ok-by ss e bytes f answer written (Ok next) o w k h = record {
  did = h.did ∙ ap (λ (o : Outcome). o.did) k;
  state = sym (ap (λ (v : SlaveView). v.state) h.view ∙ ap (λ (o : Outcome). o.slave.state) k);
  sent = w ∙ sym (h.sent ∙ ap (λ (o : Outcome). o.sent) k);
}
ok-by ss e bytes f answer written (Err x) o w k h = tt

err-by : (ss : SlaveSettings) (e : List Deed) (bytes : List ℕ) (f : SessionFrameView) (answer before written : List ℕ) (r : Result Phase (InReset × Code)) (o : Outcome) → OnErr r (written ≡ before)
    → o ≡ settles (view_of ss e) f answer r → IsOutcome ss e bytes o
    → IfErr r (λ refusal. IsRefused ss e bytes refusal.0 refusal.1 before written)
err-by ss e bytes f answer before written (Ok next) o w k h = tt
err-by ss e bytes f answer before written (Err x) o w k h = record {
  did = h.did ∙ ap (λ (o : Outcome). o.did) k ∙ refused-did (state_of (OfSlave ss) e) ss e x.1;
  state = refused-state (state_of (OfSlave ss) e) ss e x.1 x.0 ∙ sym (ap (λ (v : SlaveView). v.state) h.view ∙ ap (λ (o : Outcome). o.slave.state) k);
  unwritten = w;
}

-- a state that goes on as the machine's table says goes on as looking back says
goes : (old : Phase) (kit : KitView) (f : SessionFrameView) (before written : List ℕ) → OnOk (next_state kit old f) (written ≡ reply kit old f) → OnErr (next_state kit old f) (written ≡ before) → GoesOn old kit f (next_state kit old f) before written
goes old kit f before written w u = record {
  ok = λ ss e bytes h. ok-by ss e bytes f (reply kit old f) written (next_state kit old f) (after (view_of ss e) (move.Deliver bytes)) w (settled ss e old kit f bytes h) (outcome-is ss e old kit f bytes h);
  err = λ ss e bytes h. err-by ss e bytes f (reply kit old f) before written (next_state kit old f) (after (view_of ss e) (move.Deliver bytes)) u (settled ss e old kit f bytes h) (outcome-is ss e old kit f bytes h);
}

goes-by : (old n : Phase) (kit : KitView) (f : SessionFrameView) (r : Result Phase (InReset × Code)) (before sent : List ℕ) → n ≡ entered kit old f → r ≡ next_in kit n f
    → OnOk r (sent ≡ reply_in kit n f) → OnErr r (sent ≡ before) → GoesOn old kit f r before sent
goes-by old n kit f r before sent i j = rw (j, i) (goes old kit f before sent)

-- a phase that isn't whole stays, and one that is leads to the next state
pub stays : (b : Bool) (m n : Phase) → b ≡ false → n ≡ (if b then m else n)
stays b m n h = rw h refl

pub leaves : (b : Bool) (m n : Phase) → b ≡ true → m ≡ (if b then m else n)
leaves b m n h = rw h refl

-- a frame that is taken, or refused, in the state in which it came
pub taken_in_place : {S : Type 0} (g : S → Phase) (old : Phase) (kit : KitView) (f : SessionFrameView) (r : Result (Unit {0}) Code) (u : Unit {0}) (s : S) (before sent : List ℕ) → Advances kit old f r (g s) before sent → r ≡ Ok u → old ≡ entered kit old f
    → Transits g old old kit f (Ok s) before sent
taken_in_place g old kit f r u s before sent h i j =
    let t : Advances kit old f (Ok u) (g s) before sent = rw (← i) h in
    record { next = t.next; sent = t.sent; unwritten = tt; goes_on = goes-by old old kit f (Ok (g s)) before sent j t.next t.sent tt; under = t.under }

pub refused_in_place : {S : Type 0} (g : S → Phase) (old new : Phase) (kit : KitView) (f : SessionFrameView) (r : Result (Unit {0}) Code) (reset : InReset) (x : Code) (before sent : List ℕ) → Advances kit old f r new before sent → r ≡ Err x → old ≡ entered kit old f
    → Transits g old old kit f (Err (reset, x)) before sent
refused_in_place g old new kit f r reset x before sent h i j =
    let t : Advances kit old f (Err x) new before sent = rw (← i) h in
    record { next = t.next; sent = tt; unwritten = t.unwritten; goes_on = goes-by old old kit f (Err (reset, x)) before sent j t.next tt t.unwritten; under = tt }

entering : {S : Type 0} (g : S → Phase) (old n : Phase) (kit : KitView) (f : SessionFrameView) (r : Result S (InReset × Code)) (before sent : List ℕ) → Transits g n n kit f r before sent → n ≡ entered kit old f → Transits g old n kit f r before sent
entering g old n kit f (Ok s) before sent h i = record { next = h.next; sent = h.sent; unwritten = tt; goes_on = goes-by old n kit f (Ok (g s)) before sent i h.next h.sent tt; under = h.under }
entering g old n kit f (Err e) before sent h i = record { next = h.next; sent = tt; unwritten = h.unwritten; goes_on = goes-by old n kit f (Err e) before sent i h.next tt h.unwritten; under = tt }

-- a frame that begins the next phase
pub enters_first : {S : Type 0} (g : S → Phase) (old m n : Phase) (kit : KitView) (f : SessionFrameView) (r : Result S (InReset × Code)) (before sent : List ℕ) → Transits g m m kit f r before sent → m ≡ n → n ≡ entered kit old f
    → Transits g old n kit f r before sent
enters_first g old m n kit f r before sent h i j = rw (← i) (entering g old m kit f r before sent h (i ∙ j))
