-- An end answers the frame on its way whatever is put before, so that the frames of a run come in turn.
use Rattle.trace_diag.proofs.Common.{same_Some, Accepts, Command, Deed, End, Entry, Event, HasNoReset, MasterSettings, Move, OfMaster, OfSlave, Partner, Setup, TakesDelivery, back_th, begun, deeds, delivery, did_on, end_of, entry_on, frames_of, going_on, is_empty, judged, judged_session, next_entry, partner, quiet, sent_in, set_for, world_after}
use Rattle.std.proofs.Common.{◌≡◌, ℕ, ◌+◌, List, [], ◌∷◌, ◌++◌, length, Bool, false, Option, Some, None, IsSome, refl, sym, ap, subst, ◌∙◌, arith, if◌then◌else◌, rules}
use Rattle.fsoe_base.specs.declared.command.Code.{Code}
use Rattle.fsoe_base.specs.declared.command.End.TheVariants as end_name
use Rattle.fsoe_base.specs.declared.did.Did.{Did}
use Rattle.seq_chain.specs.SessionFrame.{SessionFrameView}
use Rattle.seq_chain.specs.declared.opened.Opened.{Opened}
use Rattle.param_load.specs.declared.entry.Move.TheVariants as move
use Rattle.schedule_file.specs.declared.event.Event.TheVariants as event
use Rattle.trace_diag.proofs.Answering.{answered}
use Rattle.trace_diag.proofs.Running.{delivered_on, held_put, plainly, IsOn, Reaches}

-- these deeds with a hold and a put
abbrev set_deeds : Bool → List ℕ → List Deed → List Deed
set_deeds failsafe load e = quiet (move.Put load) None ∷ quiet (move.Hold failsafe) None ∷ e

same-session : (s : Setup) (e : List Deed) (b : Bool) (load : List ℕ) (f : SessionFrameView) (fault : Option Code) → judged_session s (set_deeds b load e) f fault ≡ judged_session s e f fault
same-session s e b load f fault = grind arith

same-judged : (s : Setup) (e : List Deed) (b : Bool) (load : List ℕ) (o : Opened) → judged s (set_deeds b load e) o ≡ judged s e o
same-judged s e b load o = search (rules, same-session)

-- a hold and a put leave what an end does with the next frame
same-did : (s : Setup) (e : List Deed) (b : Bool) (load f : List ℕ) → did_on s (set_deeds b load e) (move.Deliver f) ≡ did_on s e (move.Deliver f)
same-did s e b load f = search (rules, same-judged)

-- the entry of a delivery after a hold and a put sends a frame
record SendsAfter (s : Setup) (e : List Deed) (o : Option (List ℕ)) : Type 0 where
  pub entry : Entry
  pub is : entry_on s e (delivery o) ≡ Some entry
  pub some : is_empty entry.sent ≡ false
  pub ended : entry.end ≡ end_of s

sends-after : (s : Setup) (e : List Deed) (b : Bool) (load : List ℕ) (o : Option (List ℕ)) (x : Entry) → entry_on s e (delivery o) ≡ Some x → HasNoReset x → TakesDelivery x → SendsAfter s (set_deeds b load e) o
sends-after s e b load None x is none takes = absurd (cc is)
sends-after s e b load (Some f) x is none takes =
    let what : Move = move.Deliver f in
    let did : Did = did_on s (set_deeds b load e) what in
    let x-is : next_entry s e what ≡ x = same_Some (next_entry s e what) x is in
    let same : did ≡ did_on s e what = same-did s e b load f in
    let no_reset : did.reset ≡ None = ap (λ (d : Did). d.reset) same ∙ (ap (λ (x : Entry). x.did.reset) x-is ∙ none) in
    let taken : IsSome did.took = subst (λ (d : Did). IsSome d.took) (sym same) (subst (λ (x : Entry). TakesDelivery x) (sym x-is) takes refl) in
    record {
      entry = next_entry s (set_deeds b load e) what;
      is = refl;
      some = answered s (begun what did ∷ set_deeds b load e) did.reset did.took did.sent no_reset taken;
      ended = refl;
    }

-- events after which one more frame was sent, by this end
pub record SendsMore (ms : MasterSettings) (r : Partner ms) (events : List Event) (w : List Entry) (at : End) : Type 0 where
  pub new : List Entry
  pub frame : List ℕ
  pub is : world_after ms (partner ms r) events w ≡ new
  pub whole : length new ≡ length events + length w
  pub sent : sent_in new ≡ record { from = at; frame = frame } ∷ sent_in w

from-entry : (ms : MasterSettings) (r : Partner ms) (w : List Entry) (at : End) (b : Bool) (load : List ℕ) (x : Entry)
    → world_after ms (partner ms r) (event.Hold at b ∷ event.Put at load ∷ event.Deliver at 1 ∷ []) w ≡ x ∷ held_put ms r w at b load → is_empty x.sent ≡ false → x.end ≡ at
    → SendsMore ms r (event.Hold at b ∷ event.Put at load ∷ event.Deliver at 1 ∷ []) w at
from-entry ms r w at b load x is some ended = record {
  new = x ∷ held_put ms r w at b load;
  frame = x.sent;
  is = is;
  whole = omega arith;
  sent =
      ap (λ (none : Bool). if none then sent_in w else record { from = x.end; frame = x.sent } ∷ sent_in w) some
      ∙ ap (λ (e : End). record { from = e; frame = x.sent } ∷ sent_in w) ended;
}

-- whatever is put
after-any : (ms : MasterSettings) (r : Partner ms) (w : List Entry) (at : End) (b : Bool) (load : List ℕ) → Accepts ms r → IsOn ms r w at → SendsMore ms r (event.Hold at b ∷ event.Put at load ∷ event.Deliver at 1 ∷ []) w at
after-any ms r w end_name.Master b load accepts o =
    let x = delivered_on ms r w end_name.Master accepts o in
    let s : SendsAfter (OfMaster ms) (set_deeds b load (deeds end_name.Master w)) (back_th 1 (frames_of end_name.Slave w)) = search (rules, sends-after) in
    from-entry ms r w end_name.Master b load s.entry (ap (λ (e : Option Entry). going_on (held_put ms r w end_name.Master b load) e (world_after ms (partner ms r) [])) s.is) s.some s.ended
after-any ms r w end_name.Slave b load accepts o =
    let x = delivered_on ms r w end_name.Slave accepts o in
    let s : SendsAfter (OfSlave (partner ms r)) (set_deeds b load (deeds end_name.Slave w)) (back_th 1 (frames_of end_name.Master w)) =
    sends-after (OfSlave (partner ms r)) (deeds end_name.Slave w) b load (back_th 1 (frames_of end_name.Master w)) x.0 x.1.is x.1.no_reset (λ k. x.1.taken) in
    from-entry ms r w end_name.Slave b load s.entry (ap (λ (e : Option Entry). going_on (held_put ms r w end_name.Slave b load) e (world_after ms (partner ms r) [])) s.is) s.some s.ended

as-plain : (ms : MasterSettings) (r : Partner ms) (w : List Entry) (at : End) → Accepts ms r → IsOn ms r w at → SendsMore ms r (event.Deliver at 1 ∷ []) w at
as-plain ms r w at accepts o =
    let x : Reaches ms r (event.Deliver at 1 ∷ []) w at = plainly ms r w at accepts o in
    record { new = x.entry ∷ x.set; frame = x.entry.sent; is = x.is; whole = x.whole; sent = x.sent }

pub sends_anyway : (ms : MasterSettings) (r : Partner ms) (w : List Entry) (at : End) (c : Option Command) (l : ℕ) (load : List ℕ) → Accepts ms r → IsOn ms r w at → SendsMore ms r (set_for at l c load ++ event.Deliver at 1 ∷ []) w at
sends_anyway ms r w at c l load h k = search (rules, after-any, as-plain)
