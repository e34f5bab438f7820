-- What is shown of one connection, and an event at one.
use Rattle.multi_master.proofs.Common.{AllZip, Answer, AppView, Call, Connection, Deed, Follows, Hold, IsSound, IsWhere, MasterSettings, MasterView, Meant, Move, MultiView, Nonce, Setup, ShowsAt, StandsFor, after, changed_by, cycle_in, moved_at, event_on, meant, numbers_of, connection_outputs, setup, with_event}
use Rattle.failsafe_io.specs.declared.bit.Bit.{Bit}
use Rattle.multi_master.specs.Calls.{Rule}
use Rattle.multi_master.specs.Standing.{HasLink, MultiValue, seen}
use Rattle.std.proofs.Common.{◌≡◌, Bool, ◌-◌, ℕ, zero, suc, slice_index_or, List, [], ◌∷◌, map, slice_get, slice_set, Option, Some, None, IfSome, refl, sym, ap, ◌∙◌, arith}
use Rattle.param_load.specs.declared.entry.Move.TheVariants as move
use Rattle.master_core.specs.Standing as core
use Rattle.multi_master.proofs.Places.{Placed, at_place, map_set, master_placed, zip_set}

-- a word of the master that is read at the place of a connection is that word of the connection
pub shown_at : {X A : Type 0} (rule : A → Rule) (holds : A → List ℕ) (guards : A → Bit → Bit → Bool) (inside now : MultiValue A) (link from : ℕ) (m : MasterView) (shown : X) (word : Setup → List Deed → X)
    → core.Shows m shown word → m ≡ slice_index_or inside.masters (from - 1) m → from ≡ link → inside ≡ now → HasLink now link → ShowsAt (seen rule holds guards now) link shown (λ c. word (setup c) c.deeds)
shown_at {A = A} rule holds guards inside now link from m shown word s read f same has = record {
  shows = λ settings app calls h.
      let is = master_placed now.masters link from m has f (rw (ap (λ (v : MultiValue A). v.masters) same) at read) in
      let p = at_place IsWhere (meant settings app calls).connections now.masters (from - 1) m h.masters is.at in
      rw (is.number, p.is) (ap (λ x. Some x) (sym (s.shows p.there.settings p.there.deeds p.holds)));
}

-- an event at a connection that exists
pub event_set : (cs : List Connection) (place : ℕ) (c : Connection) (what : Move) → slice_get cs place ≡ Some c → event_on (suc place) what cs ≡ slice_set cs place (with_event what c)
event_set [] place c what h = absurd (cc h)
event_set (a ∷ cs) zero c what h = let i : a ≡ c = cc in ap (λ (x : Connection). with_event what x ∷ cs) i
event_set (a ∷ cs) (suc place) c what h = ap (λ (xs : List Connection). a ∷ xs) (event_set cs place c what h)

-- it stands where a call led, with the answer of its cycle, if it ran one, over these connections
pub record StandsIn (cs : List Connection) (o : Option Answer) (later : Meant) (v : MultiView) : Type 0 where
  pub masters : AllZip IsWhere later.connections v.masters
  pub app_is : v.app ≡ later.app
  pub inputs_are : v.inputs ≡ map connection_outputs later.connections
  pub changed_are : v.changed ≡ numbers_of (changed_by o cs)
  pub sound : IfSome o (IsSound later)

pub stands_so : (settings : List MasterSettings) (app : AppView) (old v : MultiView) (calls : List Call) (call : Call) (o : Option Answer) (later : Meant) → StandsFor settings app old calls → cycle_in call (meant settings app calls) ≡ o
    → after call (meant settings app calls) ≡ later → StandsIn (meant settings app calls).connections o later v → StandsFor settings app v (call ∷ calls)
stands_so settings app old v calls call o later h k l m = grind arith

-- an event at one connection that changes no outputs, and runs no cycle
pub quiet_stands : (settings : List MasterSettings) (app : AppView) (old new : MultiView) (calls : List Call) (place : ℕ) (what : Move) (c : Connection) (last : MasterView) → StandsFor settings app old calls
    → slice_get (meant settings app calls).connections place ≡ Some c → connection_outputs (with_event what c) ≡ connection_outputs c → IsWhere (with_event what c) last
    → new.masters ≡ slice_set old.masters place last → new.app ≡ old.app → new.inputs ≡ old.inputs → new.changed ≡ []
    → StandsIn (meant settings app calls).connections None (moved_at (suc place) what (meant settings app calls)) new
quiet_stands settings app old new calls place what c last h is o w nm na ni nc =
    let cs : List Connection = (meant settings app calls).connections in
    rw (event_set cs place c what is) (record {
      masters = rw nm (zip_set IsWhere cs old.masters place (with_event what c) last h.masters w);
      app_is = na ∙ h.app_is;
      inputs_are = ni ∙ h.inputs_are ∙ sym (map_set connection_outputs cs place c (with_event what c) is o);
      changed_are = nc;
      sound = tt;
    })

-- a call that is this event of its connection, runs no cycle, and changes no outputs
pub record IsQuiet (call : Call) (link : ℕ) (what : Move) : Type 0 where
  pub no_cycle : (m : Meant) → cycle_in call m ≡ None
  pub after_is : (m : Meant) → after call m ≡ moved_at link what m
  pub outputs_stay : (c : Connection) → connection_outputs (with_event what c) ≡ connection_outputs c

pub nonce_quiet : (link id : ℕ) → IsQuiet (Nonce link id) link (move.Nonce id)
nonce_quiet link id = record { no_cycle = λ m. refl; after_is = λ m. refl; outputs_stay = λ c. refl }

pub hold_quiet : (link : ℕ) (on : Bool) → IsQuiet (Hold link on) link (move.Hold on)
hold_quiet link on = record { no_cycle = λ m. refl; after_is = λ m. refl; outputs_stay = λ c. refl }

pub quiet_follows : (old new : MultiView) (call : Call) (link place : ℕ) (what : Move) (m last : MasterView) → IsQuiet call link what → Placed old.masters link place m → core.Follows m what last
    → new.masters ≡ slice_set old.masters place last → new.app ≡ old.app → new.inputs ≡ old.inputs → new.changed ≡ [] → Follows old call new
quiet_follows old new call link place what m last q at f nm na ni nc = record {
  stands = λ settings app calls h.
      let later : Meant = meant settings app calls in
      let p = at_place IsWhere later.connections old.masters place m h.masters at.at in
      let c : Connection = p.there in
      stands_so settings app old new calls call None (moved_at (suc place) what later) h (q.no_cycle later) (q.after_is later ∙ ap (λ k. moved_at k what later) at.number)
      (quiet_stands settings app old new calls place what c last h p.is (q.outputs_stay c) (f.is_after c.settings c.deeds p.holds) nm na ni nc);
}
