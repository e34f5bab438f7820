-- Each connection's deeds are the run of its own events.
use Rattle.multi_master.proofs.Common.{Answer, AppView, Call, ChangeApp, Connection, Deed, Deliver, Hold, MasterSettings, Meant, Move, Nonce, Reset, Tick, after, all_tick, append-nil, common_steps, numbered_connection, cycle_in, event_on, events_of, moved_at, new_connection, is_offer, meant, run, run_append, setup, step, with_cycle, with_event, with_offers}
use Rattle.std.proofs.Common.{◌≡◌, ℕ, zero, suc, ◌==◌, List, [], ◌∷◌, ◌++◌, map, slice_get, Option, Some, None, IfSome, Bool, true, false, if◌then◌else◌, refl, sym, ap, subst, ◌∙◌, arith}
use Rattle.std.proofs.lemmas.List.{map-id}
use Rattle.std.proofs.lemmas.Option.{IfSome_then}
use Rattle.std.proofs.lemmas.Simd.{map-map}
use Rattle.param_load.specs.declared.entry.Move.TheVariants as move
use Rattle.multi_master.specs.Own.{own_part, own_events, is_no_put, without_puts}
use Rattle.multi_master.proofs.Putting.{all_settings_put}
use lib.Dec.{compare_is_eq}
use Prim.Native.Nat.compare

-- a connection's deeds are the run of their events, which are its own and offers that were put
record IsOwn (own : List Move) (c : Connection) : Type 0 where
  run : c.deeds ≡ run (setup c) (events_of c.deeds)
  events : without_puts (events_of c.deeds) ≡ own

no-puts-more : (xs : List Move) (what : Move) → without_puts (xs ++ what ∷ []) ≡ without_puts xs ++ (if is_no_put what then what ∷ [] else [])
no-puts-more xs what = grind (arith, common_steps)

event-own : (own : List Move) (what : Move) (c : Connection) → IsOwn own c → IsOwn (own ++ (if is_no_put what then what ∷ [] else [])) (with_event what c)
event-own own what c h = record {
  run = ap (λ (e : List Deed). step (setup c) e what ∷ e) h.run ∙ sym (run_append (setup c) (events_of c.deeds) (what ∷ []));
  events = no-puts-more (events_of c.deeds) what ∙ ap (λ (xs : List Move). xs ++ (if is_no_put what then what ∷ [] else [])) h.events;
}

-- what is put at a connection isn't its own
offer-own : (own : List Move) (load : List ℕ) (c : Connection) (b : Bool) → IsOwn own c → IsOwn own (if b then c else with_event (move.Put load) c)
offer-own own load c true h = h
offer-own own load c false h = subst (λ (xs : List Move). IsOwn xs (with_event (move.Put load) c)) (append-nil own) (event-own own (move.Put load) c h)

offers-own : (own : List Move) (loads : List (List ℕ)) (cs : List Connection) (k : ℕ) → IfSome (slice_get cs k) (IsOwn own) → IfSome (slice_get (with_offers loads cs) k) (IsOwn own)
offers-own own (load ∷ loads) (c ∷ cs) zero h = offer-own own load c (is_offer load c) h
offers-own own (load ∷ loads) (c ∷ cs) (suc k) h = offers-own own loads cs k h
offers-own own _ _ k h = h

cycle-own : (own : List Move) (o : Option Answer) (m : Meant) (k : ℕ) → IfSome (slice_get m.connections k) (IsOwn own) → IfSome (slice_get (with_cycle o m).connections k) (IsOwn own)
cycle-own own None m k h = h
cycle-own own (Some a) m k h = offers-own own a.outputs m.connections k h

ticks-own : (own : List Move) (cs : List Connection) (k : ℕ) → IfSome (slice_get cs k) (IsOwn own) → IfSome (slice_get (map (with_event move.Tick) cs) k) (IsOwn (own ++ move.Tick ∷ []))
ticks-own own [] k h = h
ticks-own own (c ∷ cs) zero h = event-own own move.Tick c h
ticks-own own (c ∷ cs) (suc k) h = ticks-own own cs k h

-- an event at the connection with a number is its own, and no other's
not-own : (own : List Move) (b : Bool) (what : Move) (o : Option Connection) → b ≡ false → IfSome o (IsOwn own) → IfSome o (IsOwn (own ++ (if b then what ∷ [] else [])))
not-own own b what o e h = subst (λ (xs : List Move). IfSome o (IsOwn xs)) (sym (ap (λ (x : Bool). own ++ (if x then what ∷ [] else [])) e ∙ append-nil own)) h

pub suc-suc : (j k : ℕ) → (suc j == suc k) ≡ (j == k)
suc-suc j k = ap compare_is_eq (compare.suc-suc j k)

event-there : (own : List Move) (cs : List Connection) (link k : ℕ) (what : Move) → is_no_put what ≡ true → IfSome (slice_get cs k) (IsOwn own)
    → IfSome (slice_get (event_on link what cs) k) (IsOwn (own ++ (if link == suc k then what ∷ [] else [])))
event-there own [] link k what n h = h
event-there own (c ∷ cs) (suc zero) zero what n h = subst (λ (b : Bool). IsOwn (own ++ (if b then what ∷ [] else [])) (with_event what c)) n (event-own own what c h)
event-there own (c ∷ cs) (suc (suc place)) (suc k) what n h =
    subst (λ (b : Bool). IfSome (slice_get (event_on (suc place) what cs) k) (IsOwn (own ++ (if b then what ∷ [] else [])))) (sym (suc-suc (suc place) (suc k)))
    (event-there own cs (suc place) k what n h)
event-there own (c ∷ cs) link k what n h = not-own own (link == suc k) what (slice_get (c ∷ cs) k) (grind arith) h

-- a connection's own events, call by call
call-own : (own : List Move) (call : Call) (m : Meant) (k : ℕ) → IfSome (slice_get m.connections k) (IsOwn own) → IfSome (slice_get (after call m).connections k) (IsOwn (own ++ own_part (suc k) call))
call-own own (Deliver link bytes) m k h =
    let o : Option Answer = cycle_in (Deliver link bytes) m in
    event-there own (with_cycle o m).connections link k (move.Deliver bytes) refl (cycle-own own o m k h)
call-own own Tick m k h = cycle-own (own ++ move.Tick ∷ []) (cycle_in Tick m) (all_tick m) k (ticks-own own m.connections k h)
call-own own (Reset link) m k h = cycle-own (own ++ own_part (suc k) (Reset link)) (cycle_in (Reset link) m) (moved_at link move.Local m) k (event-there own m.connections link k move.Local refl h)
call-own own (Nonce link id) m k h = event-there own m.connections link k (move.Nonce id) refl h
call-own own (Hold link on) m k h = event-there own m.connections link k (move.Hold on) refl h
call-own own (ChangeApp app) m k h = rw (append-nil own) (cycle-own own (cycle_in (ChangeApp app) m) (record m { app = app }) k h)

fresh-own : (settings : List MasterSettings) (k : ℕ) → IfSome (slice_get (map new_connection settings) k) (IsOwn [])
fresh-own [] k = tt
fresh-own (s ∷ ss) zero = record { run = refl; events = refl }
fresh-own (s ∷ ss) (suc k) = fresh-own ss k

all_own : (settings : List MasterSettings) (app : AppView) (calls : List Call) (link : ℕ) → IfSome (numbered_connection link (meant settings app calls)) (IsOwn (own_events link calls))
all_own settings app calls zero = tt
all_own settings app [] (suc k) = fresh-own settings k
all_own settings app (call ∷ calls) (suc k) = call-own (own_events (suc k) calls) call (meant settings app calls) k (all_own settings app calls (suc k))

pub runs_alone : (settings : List MasterSettings) (app : AppView) (calls : List Call) (link : ℕ) → IfSome (numbered_connection link (meant settings app calls)) (λ c. c.deeds ≡ run (setup c) (events_of c.deeds))
runs_alone settings app calls link = IfSome_then _ (all_own settings app calls link) (λ c (own : IsOwn (own_events link calls) c). own.run)

pub events_alone : (settings : List MasterSettings) (app : AppView) (calls : List Call) (link : ℕ) → IfSome (numbered_connection link (meant settings app calls)) (λ c. without_puts (events_of c.deeds) ≡ own_events link calls)
events_alone settings app calls link = IfSome_then _ (all_own settings app calls link) (λ c (own : IsOwn (own_events link calls) c). own.events)

-- what is the same after an event stays so at all connections
pub event_keeps : {X : Type 0} (f : Connection → X) (link : ℕ) (what : Move) (cs : List Connection) → ((c : Connection) → f (with_event what c) ≡ f c) → map f (event_on link what cs) ≡ map f cs
event_keeps f link what [] h = refl
event_keeps f zero what (c ∷ cs) h = refl
event_keeps {X} f (suc zero) what (c ∷ cs) h = ap (λ (x : X). x ∷ map f cs) (h c)
event_keeps {X} f (suc (suc place)) what (c ∷ cs) h = ap (λ (xs : List X). f c ∷ xs) (event_keeps f (suc place) what cs h)

-- the settings stay
ticks-settings : (cs : List Connection) → map (λ c. c.settings) (map (with_event move.Tick) cs) ≡ map (λ c. c.settings) cs
ticks-settings cs = map-map (λ (c : Connection). c.settings) (with_event move.Tick) cs

call-settings : (call : Call) (m : Meant) → map (λ c. c.settings) (after call m).connections ≡ map (λ c. c.settings) m.connections
call-settings call m = grind (arith, event_keeps, all_settings_put, ticks-settings)

pub settings_alone : (settings : List MasterSettings) (app : AppView) (calls : List Call) → map (λ c. c.settings) (meant settings app calls).connections ≡ settings
settings_alone settings app [] = map-map (λ (c : Connection). c.settings) new_connection settings ∙ map-id settings
settings_alone settings app (call ∷ calls) = call-settings call (meant settings app calls) ∙ settings_alone settings app calls
