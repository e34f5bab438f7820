-- A net that runs answers by looking back over its cycles.
use Rattle.plant_model.proofs.Common.{Act, Answer, AppView, Beginning, Call, ChangeApp, Connection, Deliver, Hold, MasterSettings, Meant, Nonce, Reset, Tick, after, all_tick, app_answer, call_of, calls, numbered_connection, cycle_in, moved_at, event_keeps, is_heard, masters, meant, offer_len, option_and_then, option_to_list, connection_outputs, settings, settings_alone, with_cycle, with_event}
use Rattle.std.proofs.Common.{◌≡◌, ℕ, true, false, List, [], ◌∷◌, ◌++◌, map, Option, Some, None, IfSome, refl, sym, ap, ap₂, ◌∙◌, arith}
use Rattle.std.proofs.lemmas.List.{map-id}
use Rattle.std.proofs.lemmas.Option.{cond_some}
use Rattle.std.proofs.lemmas.Simd.{map-map}
use Rattle.fb_net.specs.Calls as net
use Rattle.fb_net.specs.Calls.{held_after}
use Rattle.fb_net.specs.NetView.{NetView}
use Rattle.fb_net.specs.Standing.{IsNewNet}
use Rattle.fb_net.specs.Outputs.{net_outputs}
use Rattle.fb_net.specs.Values.{NetCycle}
use Rattle.fb_net.proofs.Ruled.{rule_answers}
use Rattle.param_load.specs.declared.entry.Move.TheVariants as move
use Rattle.multi_master.proofs.Putting.{all_outputs_put, outputs_delivered}
use Rattle.plant_model.specs.NetCycles.{AnswersByNet, app_begun, app_cycles, cycles_before, is_ticked, net_app, sent_lens, with_answered}

-- the application that answers in a call
abbrev answering : Call → Meant → AppView
answering (ChangeApp app) m = app
answering _ m = m.app

-- it answers by the outputs after the call
abbrev answer_to : Call → Meant → Answer
answer_to call m = (answering call m).rule (answering call m).holds (is_ticked call) (map connection_outputs (after call m).connections) (map offer_len m.connections)

answered : (call : Call) (m : Meant) (a : Answer) → cycle_in call m ≡ Some a → a ≡ answer_to call m
answered (Deliver link bytes) m a e =
    let lens = event_keeps offer_len link (move.Deliver bytes) m.connections (λ c. refl) in
    sym (cond_some (is_heard bytes (numbered_connection link m)) (app_answer false (moved_at link (move.Deliver bytes) m)) a e).1
    ∙ ap₂ (λ (inputs : List (List ℕ)) (ls : List ℕ). m.app.rule m.app.holds false inputs ls)
    (sym (outputs_delivered link bytes m.connections a.outputs) ∙ sym (ap (λ (o : Option Answer). map connection_outputs (moved_at link (move.Deliver bytes) (with_cycle o m)).connections) e)) lens
answered Tick m a e =
    let told : Answer = app_answer true (all_tick m) in
    let is : a ≡ told = cc in
    is ∙ ap₂ (λ (inputs : List (List ℕ)) (ls : List ℕ). m.app.rule m.app.holds true inputs ls) (sym (all_outputs_put (all_tick m).connections told.outputs)) (map-map offer_len (with_event move.Tick) m.connections)
answered (Reset link) m a e =
    let told : Answer = app_answer false (moved_at link move.Local m) in
    let is : a ≡ told = cc in
    let lens = event_keeps offer_len link move.Local m.connections (λ c. refl) in
    is ∙ ap₂ (λ (inputs : List (List ℕ)) (ls : List ℕ). m.app.rule m.app.holds false inputs ls) (sym (all_outputs_put (moved_at link move.Local m).connections told.outputs)) lens
answered (Nonce link id) m a e = absurd (cc e)
answered (Hold link on) m a e = absurd (cc e)
answered (ChangeApp app) m a e =
    let told : Answer = app_answer false (record m { app = app }) in
    let is : a ≡ told = cc in
    is ∙ ap (λ (inputs : List (List ℕ)). app.rule app.holds false inputs (map offer_len m.connections)) (sym (all_outputs_put m.connections told.outputs))

-- an application after an answer, if there was one
abbrev held_by : Option Answer → AppView → AppView
held_by None app = app
held_by (Some a) app = record app { holds = a.holds }

app_after : (call : Call) (m : Meant) → (after call m).app ≡ held_by (cycle_in call m) (answering call m)
app_after call m = grind arith

-- the calls of a net by its cycles
abbrev net_calls : List MasterSettings → List NetCycle → List net.Call
net_calls settings e = map (λ c. record { cycle = c; lens = sent_lens settings }) e

-- an application after these cycles
abbrev had : List MasterSettings → AppView → List NetCycle → AppView
had settings begun e = record begun { holds = held_after begun.rule begun.holds (net_calls settings e) }

answering_had : (settings : List MasterSettings) (app : AppView) (calls : List Call) (call : Call) (m : Meant) (e : List NetCycle) → m.app ≡ had settings (app_begun app calls) e
    → answering call m ≡ had settings (app_begun app (call ∷ calls)) (cycles_before call e)
answering_had settings app calls call m e h = grind arith

-- a call's cycle, if it runs one
abbrev cycle_by : Call → Meant → NetCycle
cycle_by call m = record { ticked = is_ticked call; inputs = map connection_outputs (after call m).connections }

-- an answer is that of what the application began as; the lengths of what is answered never change
told : (settings : List MasterSettings) (app : AppView) (calls : List Call) (call : Call) (a : Answer) (x : AppView) → cycle_in call (meant settings app calls) ≡ Some a → answering call (meant settings app calls) ≡ x
    → a ≡ x.rule x.holds (is_ticked call) (map connection_outputs (after call (meant settings app calls)).connections) (sent_lens settings)
told settings app calls call a x is h =
    let m : Meant = meant settings app calls in
    answered call m a is
    ∙ ap₂ (λ (y : AppView) (lens : List ℕ). y.rule y.holds (is_ticked call) (map connection_outputs (after call m).connections) lens) h
    (sym (map-map (λ (s : MasterSettings). s.lengths.master) (λ (c : Connection). c.settings) m.connections) ∙ ap sent_lens (settings_alone settings app calls))

went_on : (settings : List MasterSettings) (app : AppView) (calls : List Call) (call : Call) (o : Option Answer) (begun : AppView) (e : List NetCycle) → cycle_in call (meant settings app calls) ≡ o
    → answering call (meant settings app calls) ≡ had settings begun e → held_by o (answering call (meant settings app calls)) ≡ had settings begun (with_answered o (cycle_by call (meant settings app calls)) e)
went_on settings app calls call None begun e is h = h
went_on settings app calls call (Some a) begun e is h =
    ap₂ (λ (x : AppView) (y : Answer). record x { holds = y.holds }) h (told settings app calls call a (had settings begun e) is h)

has_had : (settings : List MasterSettings) (app : AppView) (calls : List Call) → (meant settings app calls).app ≡ had settings (app_begun app calls) (app_cycles settings app calls)
has_had settings app [] = refl
has_had settings app (call ∷ calls) =
    let m : Meant = meant settings app calls in
    let e : List NetCycle = app_cycles settings app calls in
    app_after call m
    ∙ went_on settings app calls call (cycle_in call m) (app_begun app (call ∷ calls)) (cycles_before call e) refl (answering_had settings app calls call m e (has_had settings app calls))

net_answers : (v : NetView) (settings : List MasterSettings) (app : AppView) (calls : List Call) (call : Call) (o : Option Answer) → IsNewNet v → app_begun app (call ∷ calls) ≡ net_app v
    → cycle_in call (meant settings app calls) ≡ o
    → IfSome o (λ a. a.outputs ≡ net_outputs v (with_answered o (cycle_by call (meant settings app calls)) (cycles_before call (app_cycles settings app calls))) (sent_lens settings))
net_answers v settings app calls call None new begun is = tt
net_answers v settings app calls call (Some a) new begun is =
    let m : Meant = meant settings app calls in
    let c : NetCycle = cycle_by call m in
    let e : List NetCycle = cycles_before call (app_cycles settings app calls) in
    let now = answering_had settings app calls call m (app_cycles settings app calls) (has_had settings app calls) ∙ ap (λ (x : AppView). had settings x e) begun in
    ap (λ (a : Answer). a.outputs) (told settings app calls call a (had settings (net_app v) e) is now)
    ∙ rule_answers v (record { cycle = c; lens = sent_lens settings }) (net_calls settings e) new
    ∙ ap (λ (cs : List NetCycle). net_outputs v (c ∷ cs) (sent_lens settings))
    (map-map (λ (a : net.Call). a.cycle) (λ (c : NetCycle). record { cycle = c; lens = sent_lens settings }) e ∙ map-id e)

by_call : (v : NetView) (b : Beginning) (acts : List Act) (o : Option Call) → IsNewNet v → app_begun b.app (option_to_list o ++ calls b acts) ≡ net_app v
    → IfSome (option_and_then (λ call. cycle_in call (masters b acts)) o) (λ a. a.outputs ≡ net_outputs v (app_cycles (settings b) b.app (option_to_list o ++ calls b acts)) (sent_lens (settings b)))
by_call v b acts None new begun = tt
by_call v b acts (Some call) new begun = net_answers v (settings b) b.app (calls b acts) call (cycle_in call (masters b acts)) new begun refl

pub answers_by_net : (v : NetView) → IsNewNet v → (b : Beginning) (act : Act) (acts : List Act) → AnswersByNet v b act acts
answers_by_net v new b act acts begun = by_call v b acts (call_of b act) new begun
