-- What an event leaves at the machine is what looking back gives: where nothing is taken.
use Rattle.slave_core.proofs.Common.{AreBytes, Code, Deed, Did, Dropped, KitView, Move, Phase, OfSlave, Outcome, SlaveSettings, SlaveView, State, code, deed_of, dropped, drops, falls, first_of, kit_of, later, limit, meets, notes_of, nothing, phase_in, on_expiry, on_fault, on_reset_frame, one_more, quiet, refuses, reset_by_peer, resets, slave_age, slave_limit, state_of, tick_in_session, tick_of, ticks, view_in, view_of}
use Rattle.std.proofs.Common.{◌≡◌, ◌≢◌, ℕ, suc, ◌+◌, ◌<◌, nat_le, List, [], ◌∷◌, length, Bool, true, false, if◌then◌else◌, refl, sym, ap, subst, ◌∙◌, arith, rules}
use Rattle.fsoe_base.specs.declared.command.State.TheVariants as state
use Rattle.fsoe_base.specs.declared.did.Cause.{Cause}
use Rattle.fsoe_base.specs.declared.did.Cause.TheVariants as cause
use Rattle.fsoe_base.specs.declared.did.Dropped.TheVariants as why
use Rattle.param_load.specs.declared.entry.Move.TheVariants as move
use Rattle.slave_core.proofs.Sound.{Sound}

-- bytes that are delivered are bytes
abbrev pub AreRead : Move → Type 0
AreRead (move.Deliver bytes) = AreBytes bytes
AreRead _ = Unit {0}

-- an outcome is what the next deed leaves, does and sends
pub record Agrees (ss : SlaveSettings) (e : List Deed) (m : Move) (d : Did) (o : Outcome) : Type 0 where
  pub view : AreRead m → view_of ss (deed_of (OfSlave ss) e m d ∷ e) ≡ o.slave
  pub did : d ≡ o.did
  pub sent : (deed_of (OfSlave ss) e m d).sent ≡ o.sent
  pub sound : Sound ss (deed_of (OfSlave ss) e m d ∷ e)

-- a slave by its parts
abbrev pub slave_at : KitView → Phase → ℕ → ℕ → SlaveView
slave_at kit now limit age = record { kit = kit; state = now; timer = record { limit = limit; age = age } }

pub same_slave : (k k' : KitView) (n n' : Phase) (l l' a a' : ℕ) → k ≡ k' → n ≡ n' → l ≡ l' → a ≡ a' → slave_at k n l a ≡ slave_at k' n' l' a'
same_slave k k' n n' l l' a a' h i j g = rw (h, i, j, g) refl

pub fresh_limit : (ss : SlaveSettings) → slave_limit ss [] ≡ ss.hand
fresh_limit ss = search rules

-- a frame is dropped
pub drop-agrees : (p : State) (ss : SlaveSettings) (e : List Deed) (bytes : List ℕ) (passed : Bool) (because : Dropped) → state_of (OfSlave ss) e ≡ p → Sound ss e
    → Agrees ss e (move.Deliver bytes) (record (dropped because) { passed = passed }) (drops (view_in p ss e) passed because)
drop-agrees p ss e bytes passed because now s = record {
  view = λ r. ap (λ (p : State). view_in p ss e) now;
  did = refl;
  sent = refl;
  sound = record { in_state = s.in_state; offer_len = s.offer_len; young = s.young };
}

-- the session ends
pub resets-agree : (p : State) (ss : SlaveSettings) (e : List Deed) (m : Move) (passed : Bool) (because : Cause)
    → kit_of ss (deed_of (OfSlave ss) e m (resets passed because) ∷ e) ≡ kit_of ss e → Sound ss e
    → Agrees ss e m (resets passed because) (falls (view_in p ss e) passed because)
resets-agree p ss e m passed because k s = record {
  view = λ r. same_slave _ _ _ _ _ _ _ _ k refl (fresh_limit ss) refl;
  did = refl;
  sent = refl;
  sound = record { in_state = (refl, refl); offer_len = ap (λ (k : KitView). length k.offer.load) k ∙ s.offer_len; young = λ h. absurd (h refl) };
}

-- a test fails
pub fault-agrees : (p : State) (ss : SlaveSettings) (e : List Deed) (bytes : List ℕ) (passed : Bool) (x : Code) → state_of (OfSlave ss) e ≡ p → Sound ss e
    → Agrees ss e (move.Deliver bytes) (on_fault p passed x) (refuses (view_in p ss e) passed x)
fault-agrees state.Reset ss e bytes passed x now s = drop-agrees state.Reset ss e bytes passed why.InReset now s
fault-agrees p ss e bytes passed x now s = resets-agree p ss e (move.Deliver bytes) passed (cause.Found x) refl s

-- a valid Reset frame
pub reset_frame-agrees : (p : State) (ss : SlaveSettings) (e : List Deed) (bytes load : List ℕ) → Sound ss e
    → Agrees ss e (move.Deliver bytes) (on_reset_frame p (OfSlave ss) load) (reset_by_peer (view_in p ss e) (code (first_of load)) load)
reset_frame-agrees state.Reset ss e bytes load s = record {
  view = λ r. same_slave _ _ _ _ _ _ _ _ refl refl (fresh_limit ss) refl;
  did = refl;
  sent = refl;
  sound = record { in_state = (refl, refl); offer_len = s.offer_len; young = λ h. absurd (h refl) };
}
reset_frame-agrees p ss e bytes load s = resets-agree p ss e (move.Deliver bytes) false (cause.Peer (code (first_of load))) refl s

-- a tick
abbrev tick_by : Bool → SlaveView → Outcome
tick_by b v =
    if b
    then falls v false (cause.Found (code 0x05))
    else quiet (record v { timer = record { limit = v.timer.limit; age = if b then 0 else v.timer.age + 1 } })

counts : (p : State) (ss : SlaveSettings) (e : List Deed) (b : Bool) → state_of (OfSlave ss) e ≡ p → slave_age p (ticks (OfSlave ss) e) ≡ ticks (OfSlave ss) e → slave_age p (suc (ticks (OfSlave ss) e)) ≡ suc (ticks (OfSlave ss) e)
    → nat_le (limit (OfSlave ss) e) (suc (ticks (OfSlave ss) e)) ≡ b → Sound ss e
    → Agrees ss e move.Tick (if b then resets false (cause.Found (code 0x05)) else nothing) (tick_by b (view_in p ss e))
counts p ss e true now a n h s = resets-agree p ss e move.Tick false (cause.Found (code 0x05)) refl s
counts p ss e false now a n h s = record {
  view = λ r. same_slave _ _ _ _ _ _ _ _ refl (ap (λ (p : State). phase_in p ss (notes_of ss e)) now) refl (ap (λ (p : State). slave_age p (suc (ticks (OfSlave ss) e))) now ∙ n ∙ one_more _ _ a);
  did = refl;
  sent = refl;
  sound = record { in_state = s.in_state; offer_len = s.offer_len; young = λ k. later (ticks (OfSlave ss) e) (limit (OfSlave ss) e) h };
}

in-session : (p : State) (ss : SlaveSettings) (e : List Deed) → state_of (OfSlave ss) e ≡ p → p ≢ state.Reset → slave_age p (ticks (OfSlave ss) e) ≡ ticks (OfSlave ss) e → slave_age p (suc (ticks (OfSlave ss) e)) ≡ suc (ticks (OfSlave ss) e) → Sound ss e
    → Agrees ss e move.Tick (if nat_le (limit (OfSlave ss) e) (suc (ticks (OfSlave ss) e)) then resets false (cause.Found (code 0x05)) else nothing) (tick_in_session (view_in p ss e))
in-session p ss e now some a n s =
    let t : ℕ = ticks (OfSlave ss) e in
    let l : ℕ = limit (OfSlave ss) e in
    let young : t < l = s.young (λ k. some (sym now ∙ k)) in
    subst (λ (b : Bool). Agrees ss e move.Tick (if nat_le l (suc t) then resets false (cause.Found (code 0x05)) else nothing) (tick_by b (view_in p ss e)))
    (meets (slave_age p t) t l a young)
    (counts p ss e (nat_le l (suc t)) now a n refl s)

both : (b : Bool) → nothing ≡ (if b then nothing else nothing)
both b = grind arith

rests : (ss : SlaveSettings) (e : List Deed) (b : Bool) → state_of (OfSlave ss) e ≡ state.Reset → Sound ss e
    → Agrees ss e move.Tick (if b then nothing else nothing) (quiet (view_in state.Reset ss e))
rests ss e b now s =
    subst (λ (d : Did). Agrees ss e move.Tick d (quiet (view_in state.Reset ss e))) (both b) (record {
      view = λ r. ap (λ (p : State). slave_at (kit_of ss e) (phase_in p ss (notes_of ss e)) (limit (OfSlave ss) e) (slave_age p (suc (ticks (OfSlave ss) e)))) now;
      did = refl;
      sent = refl;
      sound = record { in_state = s.in_state; offer_len = s.offer_len; young = λ k. absurd (k now) };
    })

pub tick-agrees : (p : State) (ss : SlaveSettings) (e : List Deed) → state_of (OfSlave ss) e ≡ p → Sound ss e
    → Agrees ss e move.Tick (if nat_le (limit (OfSlave ss) e) (suc (slave_age p (ticks (OfSlave ss) e))) then on_expiry p (OfSlave ss) else nothing) (tick_of (view_in p ss e))
tick-agrees state.Reset ss e now s = rests ss e (nat_le (limit (OfSlave ss) e) 1) now s
tick-agrees p ss e now s = in-session p ss e now (λ k. cc) refl refl s
