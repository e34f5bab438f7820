-- The law over all calls of a master: after any list of them it is after their deeds, or waits after them while a frame
-- is due.
use Rattle.master_core.proofs.Common.{Accept, Call, Called, Deed, Delivery, Did, Event, IsRun, MadeAccept, MadeEvent, MadeReply, MadeSetting, MasterIsAfter, MasterSettings, MasterView, Move, OfMaster, Pending, Reply, Setting, Setup, Waits, begun, deed, deeds_of, delivery_after, events_of, is_due, left_by, nothing, pending, run, run_of_events, same_deed, set_deed, step, tells_due, with_reply}
use Rattle.std.proofs.Common.{◌≡◌, ℕ, List, [], ◌∷◌, Bool, true, false, Option, Some, None, if◌then◌else◌, refl, sym, ap, subst, ◌∙◌, arith, rules}
use Rattle.param_load.specs.declared.entry.Move.TheVariants as move
use Rattle.end_model.specs.Reactions.{Reaction}
use Rattle.end_model.proofs.SoundRuns.{reacts}

-- where these deeds leave a master: it is after them, or waits after them in this delivery
pub record AtRest (ms : MasterSettings) (v : MasterView) (e : List Deed) : Type 0 where
  pub is_after : MasterIsAfter ms v e
  pub rest : is_due v.state ≡ false

pub record InDelivery (ms : MasterSettings) (v : MasterView) (e : List Deed) (p : Pending) : Type 0 where
  pub waits : Waits v (delivery_after ms e p)
  pub due : is_due v.state ≡ true

abbrev Reached : MasterSettings → MasterView → List Deed → Option Pending → Type 0
Reached ms v e None = AtRest ms v e
Reached ms v e (Some p) = InDelivery ms v e p

-- a delivery in which nothing was taken and no session ended sent nothing
abbrev pub IsDelivery : Move → Type 0
IsDelivery (move.Deliver bytes) = Unit {0}
IsDelivery _ = ⊥

pub quiet : (s : Setup) (e : List Deed) (m : Move) (d : Did) (f : List ℕ) → IsDelivery m → tells_due d ≡ false → Reaction s e m d f → deed m (record d { sent = false }) [] ≡ deed m d f
quiet s e m d f h k l = grind arith

quiet-delivery : (s : Setup) (e : List Deed) (bytes : List ℕ) (did : Did) → IsRun s e → did ≡ record (step s e (move.Deliver bytes)).did { sent = false } → tells_due did ≡ false
    → begun (move.Deliver bytes) did ≡ step s e (move.Deliver bytes)
quiet-delivery s e bytes did run h i =
    let x : Deed = step s e (move.Deliver bytes) in
    ap (λ (d : Did). begun (move.Deliver bytes) d) h
    ∙ quiet s e (move.Deliver bytes) x.did x.sent tt (sym (ap (λ (d : Did). tells_due d) h) ∙ i) (reacts s e (move.Deliver bytes) run tt)

-- each call
at-event : (ms : MasterSettings) (old new : MasterView) (x : Deed) (e : List Deed) (p : Option Pending) → Reached ms old e p → MadeEvent old x new → Reached ms new (x ∷ e) p
at-event ms old new x e None r made = record {
  is_after =
      subst (λ (y : Deed). MasterIsAfter ms new (y ∷ e))
      (sym (same_deed x.what x.did _ x.sent _ (made.answers.did ms e r.is_after) (made.answers.sent ms e r.is_after)))
      (made.follows.is_after ms e r.is_after);
  rest = made.done;
}
at-event ms old new x e (Some p) r made = absurd (cc (r.due, made.rest))

at-setting : (ms : MasterSettings) (old new : MasterView) (m : Move) (e : List Deed) (p : Option Pending) → Reached ms old e p → MadeSetting old m new → Reached ms new (begun m nothing ∷ e) p
at-setting ms old new m e None r made = record {
  is_after = subst (λ (y : Deed). MasterIsAfter ms new (y ∷ e)) (sym (set_deed (OfMaster ms) e m made.sets)) (made.follows.is_after ms e r.is_after);
  rest = made.due ∙ r.rest;
}
at-setting ms old new m e (Some p) r made = record {
  waits = subst (λ (y : Deed). Waits new (delivery_after ms (y ∷ e) p)) (sym (set_deed (OfMaster ms) e m made.sets)) (made.keeps.waits (delivery_after ms e p) r.waits);
  due = made.due ∙ r.due;
}

accepted-so : (ms : MasterSettings) (old new : MasterView) (bytes : List ℕ) (did : Did) (e : List Deed) (b : Bool) → tells_due did ≡ b → MasterIsAfter ms old e → MadeAccept old bytes did new
    → Reached ms new (if b then e else begun (move.Deliver bytes) did ∷ e) (if b then Some (record { bytes = bytes; did = did }) else None)
accepted-so ms old new bytes did e true b h made = record { waits = (made.accepts.under_way ms e h).waits; due = made.due ∙ b }
accepted-so ms old new bytes did e false b h made = record {
  is_after =
      subst (λ (y : Deed). MasterIsAfter ms new (y ∷ e))
      (sym (quiet-delivery (OfMaster ms) e bytes did h.reached (made.accepts.under_way ms e h).did b))
      ((made.accepts.under_way ms e h).is_after (made.due ∙ b));
  rest = made.due ∙ b;
}

at-accept : (ms : MasterSettings) (old new : MasterView) (bytes : List ℕ) (did : Did) (e : List Deed) (p : Option Pending) → Reached ms old e p → MadeAccept old bytes did new
    → Reached ms new (if tells_due did then e else begun (move.Deliver bytes) did ∷ e) (left_by bytes did)
at-accept ms old new bytes did e None r made = accepted-so ms old new bytes did e (tells_due did) refl r.is_after made
at-accept ms old new bytes did e (Some p) r made = absurd (cc (r.due, made.rest))

at-reply : (ms : MasterSettings) (old new : MasterView) (frame : List ℕ) (e : List Deed) (p : Option Pending) → Reached ms old e p → MadeReply old frame new → Reached ms new (with_reply frame p e) None
at-reply ms old new frame e None r made = absurd (cc (r.rest, made.due))
at-reply ms old new frame e (Some p) r made =
    let d : Delivery = delivery_after ms e p in
    let done = made.replies.did d r.waits ∙ ap (λ (b : Bool). record p.did { sent = b }) r.due in
    assumption (subst (λ (y : Deed). MasterIsAfter ms new (y ∷ e)) (same_deed (move.Deliver p.bytes) _ _ _ _ done (sym (made.replies.sent d r.waits))) (made.replies.is_after d r.waits), made.done)

-- all calls
reached : (ms : MasterSettings) (first last : MasterView) (calls : List Call) → MasterIsAfter ms first [] → Called first calls last → Reached ms last (deeds_of calls) (pending calls)
reached ms first last [] h c = subst (λ (v : MasterView). AtRest ms v []) c (record { is_after = h; rest = ap (λ (v : MasterView). is_due v.state) h.is })
reached ms first last (Event x ∷ calls) h c = at-event ms c.0 last x (deeds_of calls) (pending calls) (reached ms first c.0 calls h c.1) c.2
reached ms first last (Setting m ∷ calls) h c = at-setting ms c.0 last m (deeds_of calls) (pending calls) (reached ms first c.0 calls h c.1) c.2
reached ms first last (Accept bytes did ∷ calls) h c = at-accept ms c.0 last bytes did (deeds_of calls) (pending calls) (reached ms first c.0 calls h c.1) c.2
reached ms first last (Reply frame ∷ calls) h c = at-reply ms c.0 last frame (deeds_of calls) (pending calls) (reached ms first c.0 calls h c.1) c.2

is-run : (ms : MasterSettings) (v : MasterView) (e : List Deed) (p : Option Pending) → Reached ms v e p → IsRun (OfMaster ms) e
is-run ms v e p h = grind arith

pub calls_run : (ms : MasterSettings) (first last : MasterView) (calls : List Call) → MasterIsAfter ms first [] → Called first calls last → deeds_of calls ≡ run (OfMaster ms) (events_of (deeds_of calls))
calls_run ms first last calls h c = run_of_events (OfMaster ms) (deeds_of calls) (is-run ms last (deeds_of calls) (pending calls) (reached ms first last calls h c))

pub calls_end : (ms : MasterSettings) (first last : MasterView) (calls : List Call) → MasterIsAfter ms first [] → Called first calls last → pending calls ≡ None → MasterIsAfter ms last (deeds_of calls)
calls_end ms first last calls h k l = search (rules, reached)

pub calls_wait : (ms : MasterSettings) (first last : MasterView) (calls : List Call) → MasterIsAfter ms first [] → Called first calls last → (p : Pending) → pending calls ≡ Some p
    → Waits last (delivery_after ms (deeds_of calls) p)
calls_wait ms first last calls h k p l = search (rules, reached)
