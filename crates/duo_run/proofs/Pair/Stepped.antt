-- A pair whose end does its next deed does the next entry of the world.
use Rattle.duo_run.proofs.Common.{Advances, Comes, Deed, Did, DuoStands, DuoView, End, Entry, Event, Hears, IsWritable, MasterIsAfter, MasterSettings, Misses, Move, NotesParts, OfMaster, OfSlave, ShowsLast, SlaveIsAfter, SlaveSettings, State, Steps, Terms, deeds, end_of_event, entry_at, entry_on, frames_of, is_empty, move_at, move_from, next_entry, peer, sent_by, setup_of, step, window_of}
use Rattle.slave_core.specs.SlaveView.{SlaveView}
use Rattle.std.proofs.Common.{◌≡◌, ℕ, List, ◌∷◌, Option, Some, None, refl, sym, ap, subst, ◌∙◌, if◌then◌else◌, rules}
use Rattle.fsoe_base.specs.declared.command.End.TheVariants as end_name
use Rattle.master_core.specs.MasterView.{MasterView}
use Rattle.master_core.specs.Standing as master_core
use Rattle.slave_core.specs.Standing as slave_core
use Rattle.duo_run.proofs.Pair.Moved.{moved_within}

-- what an event is by the windows, it is by all frames
moved-is : (at : End) (ms : MasterSettings) (ss : SlaveSettings) (v : DuoView) (w : List Entry) (event : Event) → IsWritable event → DuoStands ms ss v w → move_from (sent_by (peer at) v).frames event ≡ move_from (frames_of (peer at) w) event
moved-is end_name.Master ms ss v w event writable h = moved_within v.slave_sent (frames_of end_name.Slave w) event writable h.slave_sent
moved-is end_name.Slave ms ss v w event writable h = moved_within v.master_sent (frames_of end_name.Master w) event writable h.master_sent

entry-is : (at : End) (ms : MasterSettings) (ss : SlaveSettings) (v : DuoView) (w : List Entry) (event : Event) (what : Option Move) → at ≡ end_of_event event → IsWritable event → DuoStands ms ss v w
    → move_from (sent_by (peer at) v).frames event ≡ what → entry_at ms ss w event ≡ entry_on (setup_of ms ss at) (deeds at w) what
entry-is at ms ss v w event what here writable h is =
    ap (λ (at : End). entry_on (setup_of ms ss at) (deeds at w) (move_from (frames_of (peer at) w) event)) (sym here)
    ∙ ap (entry_on (setup_of ms ss at) (deeds at w)) (sym (moved-is at ms ss v w event writable h) ∙ is)

pub misses_by : (at : End) (v : DuoView) (event : Event) → at ≡ end_of_event event → IsWritable event → move_from (sent_by (peer at) v).frames event ≡ None → Misses v event
misses_by at v event here writable is = record { misses = λ ms ss w h. entry-is at ms ss v w event None here writable h is }

-- an end that does its next deed, whose window and the monitor note what it did, does the next entry of the world
pub master_advances : (old new : DuoView) (event : Event) (came : List ℕ) (did : Did) (sent : List ℕ) → end_name.Master ≡ end_of_event event → IsWritable event → Comes old.slave_sent.frames event came
    → master_core.Follows old.master (move_at event came) new.master → master_core.Answers old.master (move_at event came) did sent → NotesParts old.monitor end_name.Master came did sent new.monitor
    → Hears old.master_sent sent new.master_sent → new.slave ≡ old.slave → new.slave_sent ≡ old.slave_sent → Advances old event did sent new
master_advances old new event came did sent here writable comes follows answers noted heard slave slave_sent = record {
  next = λ ms ss w h.
      let what : Move = move_at event came in
      let e : List Deed = deeds end_name.Master w in
      let frames : List (List ℕ) = frames_of end_name.Master w in
      let x : Entry = next_entry (OfMaster ms) e what in
      let d : x.did ≡ did = sym (answers.did ms e h.master) in
      let s : x.sent ≡ sent = sym (answers.sent ms e h.master) in
      let after : MasterIsAfter ms new.master (step (OfMaster ms) e what ∷ e) = follows.is_after ms e h.master in
      record {
        entry = x;
        next = entry-is end_name.Master ms ss old w event (Some what) here writable h comes.is;
        stands = record {
          master = after;
          slave = subst (λ (end : SlaveView). SlaveIsAfter ss end (deeds end_name.Slave w)) (sym slave) h.slave;
          master_sent = heard.hears frames h.master_sent ∙ ap (λ (f : List ℕ). window_of (if is_empty f then frames else f ∷ frames)) (sym s);
          slave_sent = slave_sent ∙ h.slave_sent;
          monitor = (noted.notes x (record { end_is = refl; came_is = comes.delivered_is; did_is = d; sent_is = s })).notes w h.monitor;
          world = (record { proper = after.reached.0.proper; stepped = refl }, h.world);
        };
        end_is = here;
        did_is = d;
        sent_is = s;
      };
}

-- the same of the slave
pub slave_advances : (old new : DuoView) (event : Event) (came : List ℕ) (did : Did) (sent : List ℕ) → end_name.Slave ≡ end_of_event event → IsWritable event → Comes old.master_sent.frames event came
    → slave_core.Follows old.slave (move_at event came) new.slave → slave_core.Answers old.slave (move_at event came) did sent → NotesParts old.monitor end_name.Slave came did sent new.monitor
    → Hears old.slave_sent sent new.slave_sent → new.master ≡ old.master → new.master_sent ≡ old.master_sent → Advances old event did sent new
slave_advances old new event came did sent here writable comes follows answers noted heard master master_sent = record {
  next = λ ms ss w h.
      let what : Move = move_at event came in
      let e : List Deed = deeds end_name.Slave w in
      let frames : List (List ℕ) = frames_of end_name.Slave w in
      let x : Entry = next_entry (OfSlave ss) e what in
      let d : x.did ≡ did = sym (answers.did ss e h.slave) in
      let s : x.sent ≡ sent = sym (answers.sent ss e h.slave) in
      let after : SlaveIsAfter ss new.slave (step (OfSlave ss) e what ∷ e) = follows.is_after ss e h.slave in
      record {
        entry = x;
        next = entry-is end_name.Slave ms ss old w event (Some what) here writable h comes.is;
        stands = record {
          slave = after;
          master = subst (λ (end : MasterView). MasterIsAfter ms end (deeds end_name.Master w)) (sym master) h.master;
          slave_sent = heard.hears frames h.slave_sent ∙ ap (λ (f : List ℕ). window_of (if is_empty f then frames else f ∷ frames)) (sym s);
          master_sent = master_sent ∙ h.master_sent;
          monitor = (noted.notes x (record { end_is = refl; came_is = comes.delivered_is; did_is = d; sent_is = s })).notes w h.monitor;
          world = (record { proper = after.reached.0.proper; stepped = refl }, h.world);
        };
        end_is = here;
        did_is = d;
        sent_is = s;
      };
}

-- the next entry is the one with these parts
abbrev entry : End → Move → Did → List ℕ → State → List ℕ → Option Terms → Entry
entry at what did sent state outputs terms = record { end = at; what = what; did = did; sent = sent; state = state; outputs = outputs; terms = terms }

pub steps_by : (old : DuoView) (event : Event) (at : End) (what : Move) (did : Did) (sent : List ℕ) (state : State) (outputs : List ℕ) (terms : Option Terms) (new : DuoView)
    → at ≡ end_of_event event → IsWritable event → move_from (sent_by (peer at) old).frames event ≡ Some what → Advances old event did sent new
    → ShowsLast new at state (λ x. x.state) → ShowsLast new at outputs (λ x. x.outputs) → ShowsLast new at terms (λ x. x.terms) → Steps old event (entry at what did sent state outputs terms) new
steps_by old event at what did sent state outputs terms new h k l m n o p = search (rules, moved-is)
