-- The masters of a plant did what their pairs in the journal say: connection by connection both have the same deeds.
use Rattle.plant_model.proofs.Common.{Act, Answer, App, Beginning, Call, Connection, Deed, End, Entry, Happen, IfSome, IsSomeAnd, JournalStep, LinkConf, Meant, Move, PlantEvent, PullFrom, SaysEvent, Start, all_tick, append-nil, calls, changed_by, changed_from, numbered_connection, cycle_in, act_cycle, deeds, delivery_call, eq-eqb, event_on, new_connection, if_same, is_offer, journal, link_at, masters, meant, next_of, offer_step, option_and_then, option_map, option_to_list, own_events, own_part, pair, settings, with_cycle, with_event, with_offers, world_after}
use Rattle.std.proofs.Common.{◌≡◌, ◌≢◌, ℕ, zero, suc, ◌+◌, ◌<◌, ◌==◌, List, [], ◌∷◌, ◌++◌, map, slice_get, Option, Some, None, Bool, true, false, if◌then◌else◌, refl, sym, ap, ap₂, ◌∙◌, append_assoc, arith}
use Rattle.std.proofs.lemmas.Option.{slice_get-map}
use Rattle.fsoe_base.specs.declared.command.End.TheVariants as side
use Rattle.param_load.specs.declared.entry.Move.TheVariants as move
use Rattle.schedule_file.specs.declared.event.Event.{Event}
use Rattle.schedule_file.specs.declared.event.Event.TheVariants as at
use Rattle.multi_master.proofs.Neighbours.{suc-suc}
use Rattle.multi_master.proofs.Following.{told_ticked}
use Rattle.plant_model.specs.declared.event.PlantEvent.TheVariants as event
use Rattle.plant_model.specs.declared.journal.JournalStep.TheVariants as step
use Rattle.plant_model.specs.Acts.{event_call}
use Rattle.plant_model.specs.Pair.{script_part}
use Rattle.plant_model.proofs.Growing.{IsOne, not_same, pair_more, pair_one, pair_other, pair_step}
use Rattle.plant_model.proofs.Proper.{if_some}

-- a master that did what a pair with these entries says
abbrev pub master_with : LinkConf → List Entry → Connection
master_with link w = record { settings = link.master; deeds = deeds side.Master w }

-- a list has the master of a connection at its place, by a journal
abbrev Has : List Connection → ℕ → LinkConf → List JournalStep → Type 0
Has cs place link js = slice_get cs place ≡ Some (master_with link (pair link (suc place) js))

-- so it has it by the same entries
by_entries : (cs : List Connection) (place : ℕ) (link : LinkConf) (js : List JournalStep) (w : List Entry) → slice_get cs place ≡ Some (master_with link w) → pair link (suc place) js ≡ w → Has cs place link js
by_entries cs place link js w h e = h ∙ ap (λ (z : List Entry). Some (master_with link z)) (sym e)

-- a step in which its master does nothing
quiet_step : (cs : List Connection) (place : ℕ) (link : LinkConf) (js : List JournalStep) (s : JournalStep) → deeds side.Master (world_after link.master link.slave (own_part (suc place) s) (pair link (suc place) js)) ≡ deeds side.Master (pair link (suc place) js)
    → Has cs place link js → Has cs place link (js ++ s ∷ [])
quiet_step cs place link js s same h = h ∙ ap (λ (e : List Deed). Some (record { settings = link.master; deeds = e })) (sym (ap (deeds side.Master) (pair_step link (suc place) js s) ∙ same))

-- as each line is that makes no call, and a frame that comes to a slave
line_keeps : (link : LinkConf) (k : ℕ) (e : PlantEvent) (w : List Entry) → event_call e ≡ None → deeds side.Master (world_after link.master link.slave (script_part k e) w) ≡ deeds side.Master w
line_keeps link k e w h = grind arith

frame_keeps : (link : LinkConf) (n k : ℕ) (frame : List ℕ) (w : List Entry) → deeds side.Master (world_after link.master link.slave (if_same n k (at.Raw side.Slave frame)) w) ≡ deeds side.Master w
frame_keeps link n k frame w = grind arith

-- a step at a master
abbrev one_of : Bool → Move → Connection → Connection
one_of b what c = if b then with_event what c else c

event_there : (cs : List Connection) (n place : ℕ) (what : Move) (c : Connection) → slice_get cs place ≡ Some c → slice_get (event_on n what cs) place ≡ Some (one_of (n == suc place) what c)
event_there (a ∷ cs) (suc (suc p)) (suc k) what c h = event_there cs (suc p) k what c h ∙ ap (λ (x : Bool). Some (one_of x what c)) (sym (suc-suc (suc p) (suc k)))
event_there cs n place what c h = grind arith

master_goes : (link : LinkConf) (what : Move) (w : List Entry) (b : Bool) → one_of b what (master_with link w) ≡ master_with link (if b then next_of side.Master what link w ∷ w else w)
master_goes link what w b = grind arith

master_step : (cs : List Connection) (place : ℕ) (link : LinkConf) (js : List JournalStep) (s : JournalStep) (n : ℕ) (what : Move) → IsOne s n side.Master what → Has cs place link js → Has (event_on n what cs) place link (js ++ s ∷ [])
master_step cs place link js s n what one h =
    let w : List Entry = pair link (suc place) js in
    by_entries (event_on n what cs) place link (js ++ s ∷ []) _ (event_there cs n place what (master_with link w) h ∙ ap (λ (d : Connection). Some d) (master_goes link what w (n == suc place))) (pair_one link (suc place) js s n side.Master what one)

-- an offer of another connection, and those of later ones, are none of connection k
other_offer : (k n : ℕ) (load : List ℕ) (rest : List (ℕ × List ℕ)) (same : Bool) → n ≢ k → own_events k (map offer_step (if same then rest else (n, load) ∷ rest)) ≡ own_events k (map offer_step rest)
other_offer k n load rest same h = grind (arith, not_same)

none_of : (k n : ℕ) (cs : List Connection) (loads : List (List ℕ)) → k < n → own_events k (map offer_step (changed_from n cs loads)) ≡ []
none_of k n (c ∷ cs) (load ∷ loads) h = other_offer k n load (changed_from (suc n) cs loads) (is_offer load c) (λ e. absurd (omega arith)) ∙ none_of k (suc n) cs loads (omega arith)
none_of k n _ _ h = refl

-- an offer that a cycle changed is put, and no other
put_here : (n k : ℕ) (load : List ℕ) (rest : List (ℕ × List ℕ)) (link : LinkConf) (w : List Entry) (c : Connection) (same : Bool) → n ≡ k → c ≡ master_with link w → own_events k (map offer_step rest) ≡ []
    → (if same then c else with_event (move.Put load) c) ≡ master_with link (world_after link.master link.slave (own_events k (map offer_step (if same then rest else (n, load) ∷ rest))) w)
put_here n k load rest link w c true number is none = is ∙ ap (λ (es : List Event). master_with link (world_after link.master link.slave es w)) (sym none)
put_here n k load rest link w c false number is none =
    ap (with_event (move.Put load)) is
    ∙ ap₂ (λ (b : Bool) (es : List Event). master_with link (world_after link.master link.slave ((if b then at.Put side.Master load ∷ [] else []) ++ es) w)) (sym (eq-eqb n k number)) (sym none)

puts_there : (n k place : ℕ) (cs : List Connection) (loads : List (List ℕ)) (link : LinkConf) (w : List Entry) → k ≡ n + place → slice_get cs place ≡ Some (master_with link w)
    → slice_get (with_offers loads cs) place ≡ Some (master_with link (world_after link.master link.slave (own_events k (map offer_step (changed_from n cs loads))) w))
puts_there n k place [] loads link w e h = absurd (cc h)
puts_there n k place (c ∷ cs) [] link w e h = h
puts_there n k zero (c ∷ cs) (load ∷ loads) link w e h =
    ap (λ (d : Connection). Some d) (put_here n k load (changed_from (suc n) cs loads) link w c (is_offer load c) (omega arith) (cc h) (none_of k (suc n) cs loads (omega arith)))
puts_there n k (suc place) (c ∷ cs) (load ∷ loads) link w e h =
    puts_there (suc n) k place cs loads link w (omega arith) h
    ∙ ap (λ (es : List Event). Some (master_with link (world_after link.master link.slave es w))) (sym (other_offer k n load (changed_from (suc n) cs loads) (is_offer load c) (λ z. absurd (omega arith))))

-- the offers of a cycle, if there was one, and so after a line of the script
cycle_step : (o : Option Answer) (m : Meant) (place : ℕ) (link : LinkConf) (js : List JournalStep) → Has m.connections place link js → Has (with_cycle o m).connections place link (js ++ map offer_step (changed_by o m.connections))
cycle_step None m place link js h = by_entries m.connections place link (js ++ []) (pair link (suc place) js) h (ap (pair link (suc place)) (append-nil js))
cycle_step (Some a) m place link js h =
    let listed : List JournalStep = map offer_step (changed_from 1 m.connections a.outputs) in
    by_entries (with_offers a.outputs m.connections) place link (js ++ listed) _ (puts_there 1 (suc place) place m.connections a.outputs link (pair link (suc place) js) (omega arith) h) (pair_more link (suc place) js listed)

line_more : (o : Option Answer) (m : Meant) (place : ℕ) (link : LinkConf) (js : List JournalStep) (s : JournalStep) → Has m.connections place link (js ++ s ∷ [])
    → Has (with_cycle o m).connections place link (js ++ (s ∷ map offer_step (changed_by o m.connections)))
line_more o m place link js s h = rw (← append_assoc js (s ∷ []) (map offer_step (changed_by o m.connections))) (cycle_step o m place link (js ++ s ∷ []) h)

-- the offers that an act changed which makes this call, or none
abbrev pub offers_by : Beginning → Option Call → List Act → List JournalStep
offers_by b o acts = map offer_step (changed_by (option_and_then (λ call. cycle_in call (masters b acts)) o) (masters b acts).connections)

-- a parcel: for a slave, for a master of a connection that there isn't, and of one that there is
parcel_step : (b : Beginning) (acts : List Act) (place : ℕ) (link : LinkConf) (n : ℕ) (end : End) (frame : List ℕ) (o : Option LinkConf) → slice_get b.links place ≡ Some link → link_at b.links n ≡ o → Has (masters b acts).connections place link (journal b acts)
    → Has (meant (settings b) b.app (option_to_list (delivery_call o end n frame) ++ calls b acts)).connections place link
    (journal b acts ++ (offers_by b (delivery_call o end n frame) acts ++ step.Pulled (record { to = record { link = n; end = end }; frame = frame }) ∷ []))
parcel_step b acts place link n side.Slave frame None at e h = quiet_step (masters b acts).connections place link (journal b acts) _ (frame_keeps link n (suc place) frame (pair link (suc place) (journal b acts))) h
parcel_step b acts place link n side.Slave frame (Some conf) at e h = quiet_step (masters b acts).connections place link (journal b acts) _ (frame_keeps link n (suc place) frame (pair link (suc place) (journal b acts))) h
parcel_step b acts place link n side.Master frame None at e h =
    let s : JournalStep = step.Pulled (record { to = record { link = n; end = side.Master }; frame = frame }) in
    by_entries (masters b acts).connections place link (journal b acts ++ s ∷ []) (pair link (suc place) (journal b acts)) h
    (pair_other link (suc place) (journal b acts) s n side.Master (move.Deliver frame) (record { part = λ k. refl }) (λ same. absurd (cc (at, e, ap (link_at b.links) same))))
parcel_step b acts place link n side.Master frame (Some conf) at e h =
    let m : Meant = masters b acts in
    let call : Option Call = delivery_call (Some conf) side.Master n frame in
    let o : Option Answer = option_and_then (λ call. cycle_in call m) call in
    let s : JournalStep = step.Pulled (record { to = record { link = n; end = side.Master }; frame = frame }) in
    rw (← append_assoc (journal b acts) (offers_by b call acts) (s ∷ []))
    (master_step (with_cycle o m).connections place link (journal b acts ++ offers_by b call acts) s n (move.Deliver frame) (record { part = λ k. refl }) (cycle_step o m place link (journal b acts) h))

-- the connection of the master of many that has the number of a link
pub mastered : (b : Beginning) (acts : List Act) (place : ℕ) (link : LinkConf) → slice_get b.links place ≡ Some link → slice_get (masters b acts).connections place ≡ Some (master_with link (pair link (suc place) (journal b acts)))
mastered b [] place link h = slice_get-map new_connection (settings b) place ∙ ap (option_map new_connection) (slice_get-map (λ l. l.master) b.links place ∙ ap (option_map (λ l. l.master)) h)
mastered b (Start ∷ acts) place link h =
    let m : Meant = masters b acts in
    cycle_step (act_cycle b Start acts) (record m { app = b.app }) place link (journal b acts) (mastered b acts place link h)
mastered b (Happen (SaysEvent event.Tick) ∷ acts) place link h =
    let m : Meant = masters b acts in
    line_more (act_cycle b (Happen (SaysEvent event.Tick)) acts) (all_tick m) place link (journal b acts) (step.Script event.Tick)
    (by_entries (map (with_event move.Tick) m.connections) place link (journal b acts ++ step.Script event.Tick ∷ []) _ (slice_get-map (with_event move.Tick) m.connections place ∙ ap (option_map (with_event move.Tick)) (mastered b acts place link h)) (pair_more link (suc place) (journal b acts) (step.Script event.Tick ∷ [])))
    ∙ ap (λ (listed : List (ℕ × List ℕ)). Some (master_with link (pair link (suc place) (journal b acts ++ (step.Script event.Tick ∷ map offer_step listed))))) (told_ticked 1 m.connections _)
mastered b (Happen (SaysEvent (event.Nonce n side.Master id)) ∷ acts) place link h = master_step (masters b acts).connections place link (journal b acts) _ n (move.Nonce id) (record { part = λ k. refl }) (mastered b acts place link h)
mastered b (Happen (SaysEvent e) ∷ acts) place link h = quiet_step (masters b acts).connections place link (journal b acts) (step.Script e) (line_keeps link (suc place) e (pair link (suc place) (journal b acts)) refl) (mastered b acts place link h)
mastered b (Happen (App app) ∷ acts) place link h =
    let m : Meant = masters b acts in
    line_more (act_cycle b (Happen (App app)) acts) (record m { app = app }) place link (journal b acts) step.App (quiet_step m.connections place link (journal b acts) step.App refl (mastered b acts place link h))
mastered b (PullFrom None ∷ acts) place link h = cycle_step None (masters b acts) place link (journal b acts) (mastered b acts place link h)
mastered b (PullFrom (Some parcel) ∷ acts) place link h = parcel_step b acts place link parcel.to.link parcel.to.end parcel.frame (link_at b.links parcel.to.link) h refl (mastered b acts place link h)

pub masters_agree : (b : Beginning) (acts : List Act) (k : ℕ) → IfSome (link_at b.links k) (λ link. IsSomeAnd (numbered_connection k (masters b acts)) (λ c. deeds side.Master (pair link k (journal b acts)) ≡ c.deeds))
masters_agree b acts zero = tt
masters_agree b acts (suc place) =
    if_some (λ link. IsSomeAnd (numbered_connection (suc place) (masters b acts)) (λ c. deeds side.Master (pair link (suc place) (journal b acts)) ≡ c.deeds)) (slice_get b.links place)
    (λ link is. rw (mastered b acts place link is) refl)
