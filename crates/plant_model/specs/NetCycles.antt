-- What a net answers while it is the application of a plant. Calls of the master of many connections, acts and cycles
-- are listed newest first.
use Rattle.std.specs.Prelude.{◌≡◌, ℕ, Bool, true, false, List, [], ◌∷◌, map, Option, Some, None, IfSome}
use Rattle.failsafe_io.specs.Application.{Answer}
use Rattle.fb_net.specs.Meaning.{net_holds, rule_of, guards_of}
use Rattle.fb_net.specs.NetView.{NetView}
use Rattle.fb_net.specs.Outputs.{net_outputs}
use Rattle.fb_net.specs.Values.{NetCycle}
use Rattle.param_load.specs.declared.master_settings.MasterSettings.{MasterSettings}
use Rattle.multi_master.specs.Calls.{AppView, Call, Tick, ChangeApp, Meant, cycle_in, after, meant}
use Rattle.multi_master.specs.Connection.{connection_outputs}
use Rattle.plant_model.specs.Acts.{Beginning, Act, settings, calls, act_cycle}

-- a net, as contracts see an application
abbrev pub net_app : NetView → AppView
net_app v = record { rule = rule_of v; holds = net_holds v; guards = guards_of v }

-- the application that runs after these calls, as it was when it began to run, where this one runs first
abbrev pub app_begun : AppView → List Call → AppView
app_begun app [] = app
app_begun app (ChangeApp other ∷ calls) = other
app_begun app (_ ∷ calls) = app_begun app calls

-- whether all connections tick in a call
abbrev pub is_ticked : Call → Bool
is_ticked Tick = true
is_ticked _ = false

-- the cycles so far of the application that runs after a call: one that the call brings had none
abbrev pub cycles_before : Call → List NetCycle → List NetCycle
cycles_before (ChangeApp app) e = []
cycles_before _ e = e

-- a cycle more, if there was an answer
abbrev pub with_answered : Option Answer → NetCycle → List NetCycle → List NetCycle
with_answered None c e = e
with_answered (Some a) c e = c ∷ e

-- the cycles of the application that runs after these calls: each is over the outputs of all masters after its call
abbrev pub app_cycles : List MasterSettings → AppView → List Call → List NetCycle
app_cycles settings app [] = []
app_cycles settings app (call ∷ calls) =
    let m : Meant = meant settings app calls in
    with_answered (cycle_in call m) (record { ticked = is_ticked call; inputs = map connection_outputs (after call m).connections })
    (cycles_before call (app_cycles settings app calls))

-- how many bytes the masters send
abbrev pub sent_lens : List MasterSettings → List ℕ
sent_lens settings = map (λ s. s.lengths.master) settings

-- where what runs after an act began to run as this net, and the act ran a cycle, the answer is what looking back over
-- the net's cycles says
abbrev pub AnswersByNet : NetView → Beginning → Act → List Act → Type 0
AnswersByNet v b act acts =
    app_begun b.app (calls b (act ∷ acts)) ≡ net_app v
    → IfSome (act_cycle b act acts) (λ a. a.outputs ≡ net_outputs v (app_cycles (settings b) b.app (calls b (act ∷ acts))) (sent_lens (settings b)))
