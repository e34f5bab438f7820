-- What an event leaves at the machine is what looking back gives: where no frame of a session is taken.
use Rattle.master_core.proofs.Common.{AreBytes, Cause, Code, Deed, Did, Dropped, KitView, MasterSettings, MasterView, Move, OfMaster, Outcome, Phase, State, answered_by, at_limit, at_rest, deed_of, dropped, drops, ends, kit_of, later, meets, notes_of, nothing, on_expiry, on_fault, one_more, phase_in, refuses, resets, state_of, tick_of, ticks, view_in, view_of}
use Rattle.std.proofs.Common.{◌≡◌, ℕ, suc, ◌+◌, nat_le, List, [], ◌∷◌, length, Bool, true, false, if◌then◌else◌, refl, ap, subst, ◌∙◌, arith}
use Rattle.param_load.specs.declared.entry.Move.TheVariants as move
use Rattle.master_core.proofs.Sound.{Sound}

-- bytes that are delivered are bytes
abbrev pub AreRead : Move → Type 0
AreRead (move.Deliver bytes) = AreBytes bytes
AreRead _ = Unit {0}

-- an outcome is what the next deed leaves, does and sends
pub record Agrees (ms : MasterSettings) (e : List Deed) (m : Move) (d : Did) (o : Outcome) : Type 0 where
  pub view : AreRead m → view_of ms (deed_of (OfMaster ms) e m d ∷ e) ≡ o.master
  pub did : d ≡ o.did
  pub sent : (deed_of (OfMaster ms) e m d).sent ≡ o.sent
  pub sound : Sound ms (deed_of (OfMaster ms) e m d ∷ e)

-- a master by its parts
abbrev pub master_at : KitView → Phase → ℕ → ℕ → MasterView
master_at kit phase limit age = record { kit = kit; state = at_rest phase; timer = record { limit = limit; age = age } }

pub same_master : (k k' : KitView) (p p' : Phase) (l a a' : ℕ) → k ≡ k' → p ≡ p' → a ≡ a' → master_at k p l a ≡ master_at k' p' l a'
same_master k k' p p' l a a' h i g = rw (h, i, g) refl

-- a frame is dropped
pub drop-agrees : (p : State) (ms : MasterSettings) (e : List Deed) (bytes : List ℕ) (because : Dropped) → state_of (OfMaster ms) e ≡ p → Sound ms e
    → Agrees ms e (move.Deliver bytes) (dropped because) (answered_by (drops (view_in p ms e) because))
drop-agrees p ms e bytes because now s = record {
  view = λ r. ap (λ (p : State). view_in p ms e) now;
  did = refl;
  sent = refl;
  sound = record { in_state = s.in_state; offer_len = s.offer_len; young = s.young };
}

-- the session ends
pub resets-agree : (p : State) (ms : MasterSettings) (e : List Deed) (m : Move) (passed : Bool) (because : Cause)
    → kit_of ms (deed_of (OfMaster ms) e m (resets passed because) ∷ e) ≡ kit_of ms e → Sound ms e
    → Agrees ms e m (resets passed because) (answered_by (ends (view_in p ms e) passed because))
resets-agree p ms e m passed because k s = record {
  view = λ r. same_master _ _ _ _ _ _ _ k refl refl;
  did = refl;
  sent = refl;
  sound = record { in_state = refl; offer_len = ap (λ (k : KitView). length k.offer.load) k ∙ s.offer_len; young = ms.some_watchdog };
}

-- a test fails
pub refuse-agrees : (p : State) (ms : MasterSettings) (e : List Deed) (bytes : List ℕ) (x : Code) → state_of (OfMaster ms) e ≡ p → Sound ms e
    → Agrees ms e (move.Deliver bytes) (on_fault p false x) (answered_by (refuses (view_in p ms e) x))
refuse-agrees p ms e bytes x h k = grind arith

-- a tick
abbrev tick_by : Bool → MasterView → Outcome
tick_by b v =
    if b then at_limit v
    else record { master = record v { timer = record { limit = v.timer.limit; age = if b then 0 else v.timer.age + 1 } }; did = nothing; sent = [] }

-- the limit is reached: in state Reset the Reset frame is sent again
expiry-agrees : (p : State) (ms : MasterSettings) (e : List Deed) → state_of (OfMaster ms) e ≡ p → Sound ms e → Agrees ms e move.Tick (on_expiry p (OfMaster ms)) (at_limit (view_in p ms e))
expiry-agrees p ms e h k = grind arith

counts : (p : State) (ms : MasterSettings) (e : List Deed) (b : Bool) → state_of (OfMaster ms) e ≡ p → nat_le ms.watchdog (suc (ticks (OfMaster ms) e)) ≡ b → Sound ms e
    → Agrees ms e move.Tick (if b then on_expiry p (OfMaster ms) else nothing) (tick_by b (view_in p ms e))
counts p ms e true now h s = expiry-agrees p ms e now s
counts p ms e false now h s = record {
  view = λ r. same_master _ _ _ _ _ _ _ refl (ap (λ (p : State). phase_in p ms (notes_of ms e)) now) (one_more _ _ refl);
  did = refl;
  sent = refl;
  sound = record { in_state = s.in_state; offer_len = s.offer_len; young = later (ticks (OfMaster ms) e) ms.watchdog h };
}

pub tick-agrees : (p : State) (ms : MasterSettings) (e : List Deed) → state_of (OfMaster ms) e ≡ p → Sound ms e
    → Agrees ms e move.Tick (if nat_le ms.watchdog (suc (ticks (OfMaster ms) e)) then on_expiry p (OfMaster ms) else nothing) (tick_of (view_in p ms e))
tick-agrees p ms e now s =
    let t : ℕ = ticks (OfMaster ms) e in
    subst (λ (b : Bool). Agrees ms e move.Tick (if nat_le ms.watchdog (suc t) then on_expiry p (OfMaster ms) else nothing) (tick_by b (view_in p ms e)))
    (meets t t ms.watchdog refl s.young)
    (counts p ms e (nat_le ms.watchdog (suc t)) now refl s)
