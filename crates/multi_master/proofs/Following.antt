-- What a call does, from what it does to the masters, the inputs and the application; first how all masters tick.
use Rattle.multi_master.proofs.Common.{AllZip, AnswersReset, AnswersTick, AppView, Cause, ChangeApp, Connection, Deed, Did, Follows, GuardsBy, IsRun, IsWhere, MasterView, MayBeRead, Meant, MultiView, RunsBy, RunsCycle, Reset, Tick, TicksEach, TicksOne, all_tick, app_answer, changed_from, event_on, map-set, meant, moved_at, next_deed, numbers_of, offer_at, offer_len, out, connection_outputs, own_len, same_deed, setup, with_cycle, with_event, with_offers}
use Rattle.std.proofs.Common.{◌≡◌, ℕ, List, [], ◌∷◌, map, slice_set, Option, Some, None, Bool, true, false, refl, sym, ap, ap₂, subst, ◌∙◌, suc, ◌++◌}
use Rattle.multi_master.proofs.Putting.{all_outputs_put, all_put, where_put}
use Rattle.master_core.specs.Standing as core
use Rattle.multi_master.proofs.Neighbours.{event_keeps}
use Rattle.multi_master.proofs.Places.{Placed, at_place, zip_set}
use Rattle.multi_master.proofs.Reading.{StandsIn, event_set, stands_so}
use Rattle.std.proofs.lemmas.Simd.{map-map}
use Rattle.param_load.specs.declared.entry.Move.TheVariants as move
use Rattle.multi_master.proofs.Quiet.{quiet_tick}

-- the outputs of a master are as they were read, where they are read only if its session ended
read-so : (c : Connection) (m : MasterView) (before after : List ℕ) (r : Option Cause) → (next_deed move.Tick c).did.reset ≡ r → IsRun (setup c) c.deeds → IsWhere (with_event move.Tick c) m
    → before ≡ connection_outputs c → MayBeRead r m before after → after ≡ connection_outputs (with_event move.Tick c)
read-so c m before after (Some why) e run w b p = p.shows c.settings _ w
read-so c m before after None e run w b p = p ∙ b ∙ sym (quiet_tick (setup c) c.deeds run e)

-- connections whose masters ticked: so these stand, these are their outputs, and so it is told what they did and sent
record HaveTicked (cs : List Connection) (masters : List MasterView) (read : List (List ℕ)) (dids : List Did) (sent : List (List ℕ)) : Type 0 where
  stand : AllZip IsWhere (map (with_event move.Tick) cs) masters
  read_are : read ≡ map connection_outputs (map (with_event move.Tick) cs)
  dids_are : dids ≡ map (λ c. (next_deed move.Tick c).did) cs
  sent_are : sent ≡ map (λ c. (next_deed move.Tick c).sent) cs

all_ticked : (cs : List Connection) (before : List MasterView) (inputs : List (List ℕ)) (after : List MasterView) (read : List (List ℕ)) (dids : List Did) (sent : List (List ℕ)) → AllZip IsWhere cs before
    → inputs ≡ map connection_outputs cs → TicksEach before inputs after read dids sent → HaveTicked cs after read dids sent
all_ticked [] [] [] [] [] [] [] h e t = record { stand = tt; read_are = refl; dids_are = refl; sent_are = refl }
all_ticked (c ∷ cs) (m ∷ before) (input ∷ inputs) (m' ∷ after) (now ∷ read) (did ∷ dids) (frame ∷ sent) h e t =
    let stands : IsWhere (with_event move.Tick c) m' = t.0.follows.is_after c.settings c.deeds h.0 in
    let did-is : did ≡ (next_deed move.Tick c).did = t.0.answers.did c.settings c.deeds h.0 in
    let is : now ≡ connection_outputs (with_event move.Tick c) = read-so c m' input now did.reset (sym (ap (λ (d : Did). d.reset) did-is)) h.0.reached stands (cc e) t.0.read in
    let sent-is = t.0.answers.sent c.settings c.deeds h.0 in
    let rest = all_ticked cs before inputs after read dids sent h.1 (cc e) t.1 in
    record { stand = (stands, rest.stand); read_are = cc; dids_are = cc; sent_are = cc }
all_ticked [] [] _ _ _ _ _ h e t = absurd t
all_ticked (c ∷ cs) (m ∷ before) _ _ _ _ _ h e t = absurd t
all_ticked _ _ _ _ _ _ _ h e t = absurd h

-- one master more ticks
pub ticks_more : (before : List MasterView) (inputs : List (List ℕ)) (after : List MasterView) (read : List (List ℕ)) (dids : List Did) (sent : List (List ℕ)) (m : MasterView) (input : List ℕ) (m' : MasterView) (now : List ℕ) (did : Did) (frame : List ℕ)
    → TicksEach before inputs after read dids sent → TicksOne m input m' now did frame
    → TicksEach (before ++ m ∷ []) (inputs ++ input ∷ []) (after ++ m' ∷ []) (read ++ now ∷ []) (dids ++ did ∷ []) (sent ++ frame ∷ [])
ticks_more [] [] [] [] [] [] m input m' now did frame t one = (one, tt)
ticks_more (_ ∷ before) (_ ∷ inputs) (_ ∷ after) (_ ∷ read) (_ ∷ dids) (_ ∷ sent) m input m' now did frame t one = (t.0, ticks_more before inputs after read dids sent m input m' now did frame t.1 one)
ticks_more _ _ _ _ _ _ m input m' now did frame t one = absurd t

-- the same answers are others than the same offers; so they are before a tick and after it, which changes no offer
pub told_alike : (n : ℕ) (cs ds : List Connection) (loads : List (List ℕ)) → map offer_at cs ≡ map offer_at ds → changed_from n cs loads ≡ changed_from n ds loads
told_alike n [] [] loads h = refl
told_alike n (c ∷ cs) (d ∷ ds) [] h = refl
told_alike n (c ∷ cs) (d ∷ ds) (load ∷ loads) h =
    let here : offer_at c ≡ offer_at d = cc in
    let rest : map offer_at cs ≡ map offer_at ds = cc in
    rw (here, told_alike (suc n) cs ds loads rest) refl
told_alike n _ _ loads h = absurd (cc h)

pub told_ticked : (n : ℕ) (cs : List Connection) (loads : List (List ℕ)) → changed_from n (map (with_event move.Tick) cs) loads ≡ changed_from n cs loads
told_ticked n cs loads = told_alike n (map (with_event move.Tick) cs) cs loads (map-map offer_at (with_event move.Tick) cs)

-- masters have the lengths of their connections
pub own_lens : (cs : List Connection) (ms : List MasterView) → AllZip IsWhere cs ms → map own_len ms ≡ map offer_len cs
own_lens [] [] h = refl
own_lens (c ∷ cs) (m ∷ ms) h = ap₂ (λ (n : ℕ) (ns : List ℕ). n ∷ ns) (ap own_len h.0.is) (own_lens cs ms h.1)
own_lens _ _ h = absurd h

-- a cycle was run while no frame was due, by connections where the same offers are changed
cycle-stands : (m : Meant) (ticked : Bool) (cs : List Connection) (old : AppView) (middle : List MasterView) (new : MultiView) → ((loads : List (List ℕ)) → changed_from 1 m.connections loads ≡ changed_from 1 cs loads)
    → old ≡ m.app → new.inputs ≡ map connection_outputs m.connections → AllZip IsWhere m.connections middle → RunsCycle old ticked new.inputs middle new.app new.masters new.changed
    → StandsIn cs (Some (app_answer ticked m)) (with_cycle (Some (app_answer ticked m)) m) new
cycle-stands m ticked cs old middle new same a i w r =
    let loads : List (List ℕ) = (app_answer ticked m).outputs in
    let x : RunsBy (app_answer ticked m) m.app (map connection_outputs m.connections) middle new.app new.masters new.changed = rw (i, a, own_lens m.connections middle w) at r in
    let put = all_put IsWhere where_put 1 m.connections middle loads new.masters new.changed w x.puts in
    let kept : map connection_outputs m.connections ≡ map connection_outputs (with_offers loads m.connections) = sym (all_outputs_put m.connections loads) in
    record {
      masters = put.0;
      app_is = x.app_is;
      inputs_are = i ∙ kept;
      changed_are = put.1 ∙ ap numbers_of (same loads);
      sound = record { answered = put.2; guarded = subst (λ (xs : List (List ℕ)). GuardsBy m.app.guards xs loads) kept x.guarded };
    }

-- a tick of all connections
pub tick_follows : (old new : MultiView) (middle : List MasterView) (dids : List Did) (frames : List (List ℕ)) → TicksEach old.masters old.inputs middle new.inputs dids frames
    → RunsCycle old.app true new.inputs middle new.app new.masters new.changed → Follows old Tick new
tick_follows old new middle dids frames t r = record {
  stands = λ settings app calls h.
      let m : Meant = meant settings app calls in
      let x = all_ticked m.connections old.masters old.inputs middle new.inputs dids frames h.masters h.inputs_are t in
      stands_so settings app old new calls Tick _ _ h refl refl (cycle-stands (all_tick m) true m.connections old.app middle new (told_ticked 1 m.connections) h.app_is x.read_are x.stand r);
}

pub tick_answers : (old : MultiView) (middle : List MasterView) (read : List (List ℕ)) (dids : List Did) (frames : List (List ℕ)) → TicksEach old.masters old.inputs middle read dids frames → AnswersTick old dids frames
tick_answers old middle read dids frames t = record {
  dids = λ settings app calls h. (all_ticked (meant settings app calls).connections old.masters old.inputs middle read dids frames h.masters h.inputs_are t).dids_are;
  sent = λ settings app calls h. (all_ticked (meant settings app calls).connections old.masters old.inputs middle read dids frames h.masters h.inputs_are t).sent_are;
}

-- another application runs
pub change_follows : (old new : MultiView) (app : AppView) → new.inputs ≡ old.inputs → RunsCycle app false new.inputs old.masters new.app new.masters new.changed → Follows old (ChangeApp app) new
change_follows old new app same r = record {
  stands = λ settings first calls h.
      let m : Meant = meant settings first calls in
      stands_so settings first old new calls (ChangeApp app) _ _ h refl refl (cycle-stands (record m { app = app }) false m.connections app old.masters new (λ loads. refl) refl (same ∙ h.inputs_are) h.masters r);
}

-- what a reset of one connection does and sends
pub reset_answers : (old : MultiView) (link place : ℕ) (m : MasterView) (did : Did) (frame : List ℕ) → Placed old.masters link place m → core.Answers m move.Local did frame → AnswersReset old link did frame
reset_answers old link place m did frame at a = record {
  shows = λ settings app calls h.
      let p = at_place IsWhere (meant settings app calls).connections old.masters place m h.masters at.at in
      let c : Connection = p.there in
      rw (at.number, p.is) (ap (λ (x : Deed). Some x) (same_deed move.Local _ _ _ _ (sym (a.did c.settings c.deeds p.holds)) (sym (a.sent c.settings c.deeds p.holds))));
}

-- one connection is reset, and its outputs are read
pub reset_follows : (old new : MultiView) (link place : ℕ) (m last : MasterView) (input : List ℕ) → Placed old.masters link place m → core.Follows m move.Local last → core.Shows last input out → new.inputs ≡ slice_set old.inputs place input
    → RunsCycle old.app false new.inputs (slice_set old.masters place last) new.app new.masters new.changed → Follows old (Reset link) new
reset_follows old new link place m last input at f reads ni r = record {
  stands = λ settings app calls h.
      let before : Meant = meant settings app calls in
      let cs : List Connection = before.connections in
      let p = at_place IsWhere cs old.masters place m h.masters at.at in
      let c : Connection = p.there in
      let stands : IsWhere (with_event move.Local c) last = f.is_after c.settings c.deeds p.holds in
      let is : event_on link move.Local cs ≡ slice_set cs place (with_event move.Local c) = rw at.number (event_set cs place c move.Local p.is) in
      let inputs : new.inputs ≡ map connection_outputs (event_on link move.Local cs) =
      ni ∙ ap₂ (λ (xs : List (List ℕ)) (x : List ℕ). slice_set xs place x) h.inputs_are (reads.shows c.settings _ stands) ∙ sym (ap (map connection_outputs) is ∙ map-set connection_outputs cs place (with_event move.Local c))
      in
      let masters : AllZip IsWhere (event_on link move.Local cs) (slice_set old.masters place last) = rw is (zip_set IsWhere cs old.masters place (with_event move.Local c) last h.masters stands) in
      let same = λ (loads : List (List ℕ)). told_alike 1 (event_on link move.Local cs) cs loads (event_keeps offer_at link move.Local cs (λ c. refl)) in
      stands_so settings app old new calls (Reset link) _ _ h refl refl (cycle-stands (moved_at link move.Local before) false cs old.app _ new same h.app_is inputs masters r);
}
