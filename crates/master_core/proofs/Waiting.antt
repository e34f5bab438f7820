-- A master that accepted a frame: what is put, held or set meanwhile counts as if it had come before, and the reply
-- ends the delivery.
use Rattle.master_core.proofs.Common.{Accepts, AreBytes, Deed, Delivery, Did, IsProper, IsRun, Keeps, KitView, MasterSettings, MasterView, Move, Now, OfMaster, Replies, accepted, after, is_due, its_deed, kit_of, replied, replies, reply, view_of}
use Rattle.std.proofs.Common.{◌≡◌, ℕ, List, Bool, false, IsTrue, length, refl, sym, ap, ap₂, subst, ◌∙◌}
use Rattle.param_load.specs.declared.entry.Move.TheVariants as move
use Rattle.param_load.specs.Profile.{allows_id}
use Rattle.master_core.proofs.Accepting.{kit_kept, commutes, accepts_alike}
use Rattle.master_core.proofs.Agrees.{Agrees, AreRead}
use Rattle.master_core.proofs.Agreed.{agrees, run-sound}

-- a master at rest sends nothing
at-rest : (k : KitView) (s : Now) → is_due s ≡ false → replied k s ≡ s
at-rest k s h = rw h refl

pub accepts_by : (old : MasterView) (bytes : List ℕ) (done : Did) (new : MasterView) → AreBytes bytes → new ≡ (accepted old bytes).master → done ≡ (accepted old bytes).did → done.sent ≡ false → Accepts old bytes done new
accepts_by old bytes done new read n d u = record {
  under_way = λ ms e h.
      let a = agrees ms e (move.Deliver bytes) (run-sound ms e h.reached) tt in
      let same : new ≡ (accepted (view_of ms e) bytes).master = n ∙ ap (λ (v : MasterView). (accepted v bytes).master) h.is in
      let told : done ≡ (accepted (view_of ms e) bytes).did = d ∙ ap (λ (v : MasterView). (accepted v bytes).did) h.is in
      record {
        did = ap (λ (b : Bool). record done { sent = b }) u ∙ (ap (λ (d : Did). record d { sent = false }) told ∙ ap (λ (d : Did). record d { sent = false }) (sym a.did));
        waits = record { is = same; told = told; reached = h.reached; read = read };
        is_after = λ r. record {
          is = ap (λ (s : Now). record new { state = s }) (sym (at-rest new.kit new.state r)) ∙ (ap (λ (v : MasterView). replies v) same ∙ sym (a.view read));
          reached = (record { proper = tt; stepped = refl }, h.reached);
        };
      };
}

-- an event that sets the offer, the hold or the nonce may come before the frame as well as after it
keeps : (old : MasterView) (m : Move) (new : MasterView)
    → ((v : MasterView) (bytes : List ℕ) → ((after (accepted v bytes).master m).master ≡ (accepted (after v m).master bytes).master) × ((accepted v bytes).did ≡ (accepted (after v m).master bytes).did))
    → IsProper (OfMaster old.kit.settings) m → AreRead m → new ≡ (after old m).master → Keeps old m new
keeps old m new either p read n = record {
  waits = λ d w.
      let ms : MasterSettings = d.settings in
      let e : List Deed = d.before in
      let bytes : List ℕ = d.bytes in
      let same : old.kit ≡ kit_of ms e = ap (λ (v : MasterView). v.kit) w.is ∙ kit_kept _ _ _ _ (accepts_alike (view_of ms e) (view_of ms e).kit.offer (view_of ms e).kit.nonce bytes) in
      let proper : IsProper (OfMaster ms) m = subst (λ (k : KitView). IsProper (OfMaster k.settings) m) same p in
      let a = agrees ms e m (run-sound ms e w.reached) proper in
      record {
        is = n ∙ (ap (λ (v : MasterView). (after v m).master) w.is ∙ ((either (view_of ms e) bytes).0 ∙ ap (λ (v : MasterView). (accepted v bytes).master) (sym (a.view read))));
        told = w.told ∙ ((either (view_of ms e) bytes).1 ∙ ap (λ (v : MasterView). (accepted v bytes).did) (sym (a.view read)));
        reached = (record { proper = proper; stepped = refl }, w.reached);
        read = w.read;
      };
}

pub put_keeps : (old : MasterView) (load : List ℕ) (new : MasterView) → length load ≡ old.kit.settings.lengths.master → new ≡ (after old (move.Put load)).master → Keeps old (move.Put load) new
put_keeps old load new p n = keeps old (move.Put load) new (λ v bytes. commutes (λ o. record o { load = load }) (λ n. n) v _ _ (accepts_alike v (record v.kit.offer { load = load }) v.kit.nonce bytes)) p tt n

pub hold_keeps : (old : MasterView) (failsafe : Bool) (new : MasterView) → new ≡ (after old (move.Hold failsafe)).master → Keeps old (move.Hold failsafe) new
hold_keeps old failsafe new n = keeps old (move.Hold failsafe) new (λ v bytes. commutes (λ o. record o { held = failsafe }) (λ n. n) v _ _ (accepts_alike v (record v.kit.offer { held = failsafe }) v.kit.nonce bytes)) tt tt n

pub nonce_keeps : (old : MasterView) (id : ℕ) (new : MasterView) → IsTrue (allows_id old.kit.settings.profile id) → new ≡ (after old (move.Nonce id)).master → Keeps old (move.Nonce id) new
nonce_keeps old id new p n = keeps old (move.Nonce id) new (λ v bytes. commutes (λ o. o) (λ n. id) v _ _ (accepts_alike v v.kit.offer id bytes)) p tt n

-- the reply
its-outcome : (d : Delivery) → IsRun (OfMaster d.settings) d.before → Agrees d.settings d.before (move.Deliver d.bytes) (its_deed d).did (after (view_of d.settings d.before) (move.Deliver d.bytes))
its-outcome d run = agrees d.settings d.before (move.Deliver d.bytes) (run-sound d.settings d.before run) tt

pub replies_by : (old new : MasterView) (frame : List ℕ) → new ≡ replies old → frame ≡ reply old.kit old.state → Replies old new frame
replies_by old new frame n f = record {
  is_after = λ d w.
      let a = its-outcome d w.reached in
      record { is = n ∙ (ap (λ (v : MasterView). replies v) w.is ∙ sym (a.view w.read)); reached = (record { proper = tt; stepped = refl }, w.reached) };
  did = λ d w. (its-outcome d w.reached).did ∙ ap₂ (λ (d : Did) (b : Bool). record d { sent = b }) (sym w.told) (sym (ap (λ (v : MasterView). is_due v.state) w.is));
  sent = λ d w. f ∙ (ap (λ (v : MasterView). reply v.kit v.state) w.is ∙ sym (its-outcome d w.reached).sent);
}
