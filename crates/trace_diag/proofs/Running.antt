-- The world over the schedule of a trace runs in lock step: after each frame's events the next frame is on its way.
use Rattle.trace_diag.proofs.Common.{Accepts, Asked, AtStage, Both, ComesTo, Command, Deed, Down, End, Entry, Event, Goes, HasNoReset, IsProperEvent, IsQuiet, IsWorld, MasterSettings, Move, Noted, Partner, Replied, Setup, Stage, Takes, TakesDelivery, Up, asked_delivered, back_th, both, both_kept, comes_still, coming_back, deeds, down_delivered, end_of, end_of_event, frames_from, frames_of, going_on, held, is_coming, is_empty, nonce_after, offer, partner, peer, quiet_enters, quiet_entry, quiet_hold, quiet_put, replied_delivered, sent_in, set_for, setup_of, up_delivered, world_after}
use Rattle.std.proofs.Common.{◌≡◌, ℕ, suc, ◌+◌, List, [], ◌∷◌, ◌++◌, length, replicate, Bool, true, false, Option, Some, None, refl, sym, ap, subst, ◌∙◌, arith, if◌then◌else◌}
use Rattle.fsoe_base.specs.declared.command.Command.TheVariants as command
use Rattle.param_load.specs.declared.entry.Move.TheVariants as move
use Rattle.schedule_file.specs.declared.event.Event.TheVariants as event
use Rattle.trace_diag.proofs.Nonces.{LeaveNonces, nonces_left}
use Rattle.trace_diag.proofs.Answering.{IsDelivery, delivered_as, its_end, is_answered}

sent-more : (which : End) (x : Entry) (w : List Entry) (none : Bool) → is_empty x.sent ≡ none → frames_from which (sent_in w) ≡ frames_of which w → frames_from which (sent_in (x ∷ w)) ≡ frames_of which (x ∷ w)
sent-more which x w none h k = grind arith

-- the frames that an end sent in a run are those from it
pub frames_sent : (which : End) (w : List Entry) → frames_from which (sent_in w) ≡ frames_of which w
frames_sent which [] = refl
frames_sent which (x ∷ w) = sent-more which x w (is_empty x.sent) refl (frames_sent which w)

-- a world is at a stage, and the frame on its way goes to this end
pub record IsOn (ms : MasterSettings) (r : Partner ms) (w : List Entry) (next : End) : Type 0 where
  pub is_world : IsWorld ms (partner ms r) w
  pub stage : AtStage ms r w next
  pub coming : ComesTo w next

-- events lead from there to the next stage, each with its entry: this end takes the frame that is on its way, and sends
-- its answer
pub record Reaches (ms : MasterSettings) (r : Partner ms) (events : List Event) (w : List Entry) (at : End) : Type 0 where
  -- the entries before the delivery, and its own
  pub set : List Entry
  pub entry : Entry
  pub is : world_after ms (partner ms r) events w ≡ entry ∷ set
  pub whole : length (entry ∷ set) ≡ length events + length w
  pub same : both ms r set ≡ both ms r w
  pub on : IsOn ms r (entry ∷ set) (peer at)
  pub delivery : IsDelivery (setup_of ms (partner ms r) at) (deeds at set) entry
  pub no_reset : HasNoReset entry
  pub taken : TakesDelivery entry
  pub sent : sent_in (entry ∷ set) ≡ record { from = at; frame = entry.sent } ∷ sent_in w
  pub keeps : LeaveNonces w → LeaveNonces (entry ∷ set)

-- the end is set so, where a data frame with this command and load comes next
abbrev pub IsSetFor : Setup → Option Command → List ℕ → List Deed → Type 0
IsSetFor s (Some command.FailSafeData) load e = held e ≡ true
IsSetFor s (Some command.ProcessData) load e = (held e ≡ false) × (offer s e ≡ load)
IsSetFor s _ load e = Unit {0}

-- a quiet event leaves the stage, and sends nothing
quiet-on : (ms : MasterSettings) (r : Partner ms) (w : List Entry) (next : End) (event : Event) (what : Move) → IsQuiet ms r w event what None → IsOn ms r w next → IsOn ms r (quiet_entry ms r w (end_of_event event) what None ∷ w) next
quiet-on ms r w next event what q o = record {
  is_world = ((quiet_enters ms r w event what None q).follows, o.is_world);
  stage = subst (λ (x : Both). Stage ms r x next) (sym (both_kept ms r w (end_of_event event) what None q.none_new)) o.stage;
  coming = comes_still ms r w (end_of_event event) next what None q.none_new o.coming;
}

-- a hold and a put at an end
pub set_on : (ms : MasterSettings) (r : Partner ms) (w : List Entry) (next at : End) (failsafe : Bool) (load : List ℕ) → IsProperEvent ms (partner ms r) (event.Put at load) → IsOn ms r w next
    → IsOn ms r (quiet_entry ms r (quiet_entry ms r w at (move.Hold failsafe) None ∷ w) at (move.Put load) None ∷ quiet_entry ms r w at (move.Hold failsafe) None ∷ w) next
set_on ms r w next at failsafe load proper o =
    let held : List Entry = quiet_entry ms r w at (move.Hold failsafe) None ∷ w in
    quiet-on ms r held next (event.Put at load) (move.Put load) (quiet_put ms r held at load proper)
    (quiet-on ms r w next (event.Hold at failsafe) (move.Hold failsafe) (quiet_hold ms r w at failsafe) o)

-- the frame on its way is delivered, and the answer is on its way then
pub delivered_on : (ms : MasterSettings) (r : Partner ms) (w : List Entry) (next : End) → Accepts ms r → IsOn ms r w next → (x : Entry) × Takes ms r w next x × IsOn ms r (x ∷ w) (peer next)
delivered_on ms r w next accepts o =
    let x : Goes ms r w next = go next o.stage o.coming.here in
    (x.0, x.1, record { is_world = (x.1.follows, o.is_world); stage = x.2; coming = coming_back w x.0 next x.1.at x.1.delivers x.1.answers })
  where
    go : (next : End) → AtStage ms r w next → is_coming next w ≡ true → Goes ms r w next
    go next (Asked h) coming = asked_delivered ms r w coming h
    go next (Replied h) coming = replied_delivered ms r w coming h
    go next (Down h) coming = down_delivered ms r w accepts o.is_world coming h
    go next (Up h) coming = up_delivered ms r w o.is_world coming h

pub end_of_setup : (ms : MasterSettings) (r : Partner ms) (at : End) → end_of (setup_of ms (partner ms r) at) ≡ at
end_of_setup ms r at = grind arith

-- a delivery sends a frame of its end
pub sends : (ms : MasterSettings) (r : Partner ms) (w : List Entry) (at : End) (x : Entry) → Takes ms r w at x → sent_in (x ∷ w) ≡ record { from = at; frame = x.sent } ∷ sent_in w
sends ms r w at x takes =
    let s : Setup = setup_of ms (partner ms r) at in
    let d : IsDelivery s (deeds at w) x = delivered_as s (deeds at w) (back_th 1 (frames_of (peer at) w)) x takes.is in
    ap (λ (none : Bool). if none then sent_in w else record { from = x.end; frame = x.sent } ∷ sent_in w) (is_answered s (deeds at w) x d takes.no_reset (λ k. takes.taken))
    ∙ ap (λ (from : End). record { from = from; frame = x.sent } ∷ sent_in w) (its_end s (deeds at w) x d ∙ end_of_setup ms r at)

-- the frame is delivered after these events
abbrev pub from_set : (ms : MasterSettings) (r : Partner ms) (w set : List Entry) (next : End) (events : List Event) → Accepts ms r
    → world_after ms (partner ms r) events w ≡ world_after ms (partner ms r) (event.Deliver next 1 ∷ []) set → suc (length set) ≡ length events + length w → both ms r set ≡ both ms r w → sent_in set ≡ sent_in w
    → (LeaveNonces w → LeaveNonces set) → IsOn ms r set next → Reaches ms r events w next
from_set ms r w set next events accepts goes many same unsent keeps o =
    let x = delivered_on ms r set next accepts o in
    let s : Setup = setup_of ms (partner ms r) next in
    let d : IsDelivery s (deeds next set) x.0 = delivered_as s (deeds next set) (back_th 1 (frames_of (peer next) set)) x.0 x.1.is in
    record {
      set = set;
      entry = x.0;
      is = goes ∙ ap (λ (e : Option Entry). going_on set e (world_after ms (partner ms r) [])) x.1.is;
      whole = many;
      same = same;
      on = x.2;
      delivery = d;
      no_reset = x.1.no_reset;
      taken = λ k. x.1.taken;
      sent = sends ms r set next x.0 x.1 ∙ ap (λ (t : List Noted). record { from = next; frame = x.0.sent } ∷ t) unsent;
      keeps = λ k. nonces_left x.0 set (λ n. ap (λ (x : Entry). nonce_after x.what n) d.is) (keeps k);
    }

-- a frame is answered, and before it the end was set for the answer
pub record Answers (ms : MasterSettings) (r : Partner ms) (events : List Event) (w : List Entry) (at : End) (c : Option Command) (load : List ℕ) : Type 0 where
  pub reaches : Reaches ms r events w at
  pub set_for : IsSetFor (setup_of ms (partner ms r) at) c load (deeds at reaches.set)

pub plainly : (ms : MasterSettings) (r : Partner ms) (w : List Entry) (next : End) → Accepts ms r → IsOn ms r w next → Reaches ms r (event.Deliver next 1 ∷ []) w next
plainly ms r w next accepts o = from_set ms r w w next (event.Deliver next 1 ∷ []) accepts refl (omega arith) refl refl (λ k. k) o

-- the entries after a hold and a put
abbrev pub held_put : (ms : MasterSettings) → Partner ms → List Entry → End → Bool → List ℕ → List Entry
held_put ms r w at failsafe load = quiet_entry ms r (quiet_entry ms r w at (move.Hold failsafe) None ∷ w) at (move.Put load) None ∷ quiet_entry ms r w at (move.Hold failsafe) None ∷ w

kept-both : (ms : MasterSettings) (r : Partner ms) (w : List Entry) (at : End) (failsafe : Bool) (load : List ℕ) → both ms r (held_put ms r w at failsafe load) ≡ both ms r w
kept-both ms r w at failsafe load = both_kept ms r (quiet_entry ms r w at (move.Hold failsafe) None ∷ w) at (move.Put load) None refl ∙ both_kept ms r w at (move.Hold failsafe) None refl

kept-nonces : (ms : MasterSettings) (r : Partner ms) (w : List Entry) (at : End) (failsafe : Bool) (load : List ℕ) → LeaveNonces w → LeaveNonces (held_put ms r w at failsafe load)
kept-nonces ms r w at failsafe load h = grind arith

abbrev after-put : (ms : MasterSettings) (r : Partner ms) (w : List Entry) (next : End) (failsafe : Bool) (load : List ℕ) → Accepts ms r → IsProperEvent ms (partner ms r) (event.Put next load) → IsOn ms r w next
    → Reaches ms r (event.Hold next failsafe ∷ event.Put next load ∷ event.Deliver next 1 ∷ []) w next
after-put ms r w next failsafe load accepts proper o =
    from_set ms r w (held_put ms r w next failsafe load) next (event.Hold next failsafe ∷ event.Put next load ∷ event.Deliver next 1 ∷ []) accepts refl (omega arith) (kept-both ms r w next failsafe load) refl (kept-nonces ms r w next failsafe load)
    (set_on ms r w next next failsafe load proper o)

-- what was set
pub now_held : (ms : MasterSettings) (r : Partner ms) (w : List Entry) (at : End) (failsafe : Bool) (load : List ℕ) → held (deeds at (held_put ms r w at failsafe load)) ≡ failsafe
now_held ms r w at failsafe load = grind arith

pub now_offered : (ms : MasterSettings) (r : Partner ms) (w : List Entry) (at : End) (failsafe : Bool) (load : List ℕ) → offer (setup_of ms (partner ms r) at) (deeds at (held_put ms r w at failsafe load)) ≡ load
now_offered ms r w at failsafe load = grind arith

-- the events before an answer: after them it is on its way
pub answer_on : (ms : MasterSettings) (r : Partner ms) (w : List Entry) (next : End) (c : Option Command) (l : ℕ) (load : List ℕ) → Accepts ms r
    → IsProperEvent ms (partner ms r) (event.Put next (replicate l 0)) → IsProperEvent ms (partner ms r) (event.Put next load) → IsOn ms r w next
    → Answers ms r (set_for next l c load ++ event.Deliver next 1 ∷ []) w next c load
answer_on ms r w next (Some command.FailSafeData) l load accepts zeros proper o =
    record { reaches = after-put ms r w next true (replicate l 0) accepts zeros o; set_for = now_held ms r w next true (replicate l 0) }
answer_on ms r w next (Some command.ProcessData) l load accepts zeros proper o =
    record { reaches = after-put ms r w next false load accepts proper o; set_for = (now_held ms r w next false load, now_offered ms r w next false load) }
answer_on ms r w next _ l load accepts zeros proper o = record { reaches = plainly ms r w next accepts o; set_for = tt }
