-- What the calls of a master of many connections mean, newest first: what each connection's master did, and the
-- application that runs.
use Rattle.std.specs.Prelude.{◌≡◌, ℕ, zero, suc, Bool, true, false, List, [], ◌∷◌, map, slice_get, Option, Some, None, if◌then◌else◌}
use Rattle.failsafe_io.specs.declared.bit.Bit.{Bit}
use Rattle.failsafe_io.specs.Application.{Answer, GuardsBy}
use Rattle.param_load.specs.declared.entry.Move.{Move}
use Rattle.param_load.specs.declared.entry.Move.TheVariants as move
use Rattle.param_load.specs.declared.master_settings.MasterSettings.{MasterSettings}
use Rattle.master_core.specs.Due.{tells_due}
use Rattle.multi_master.specs.Connection.{Connection, new_connection, next_deed, with_event, connection_outputs, offer_at, offer_len, is_offer, with_offers}

-- how an application answers: by what it holds, whether the cycle is ticked, the inputs, and the lengths of the outputs
abbrev pub Rule : Type 0
Rule = List ℕ → Bool → List (List ℕ) → List ℕ → Answer

-- an application: the rule by which it answers, what it holds, and what it guards
pub record AppView : Type 0 where
  pub rule : Rule
  pub holds : List ℕ
  pub guards : Bit → Bit → Bool

-- what an application of this type means
abbrev pub app_view : {A : Type 0} → (A → Rule) → (A → List ℕ) → (A → Bit → Bit → Bool) → A → AppView
app_view rule holds guards a = record { rule = rule a; holds = holds a; guards = guards a }

-- a call: a frame comes for a connection, all connections tick, a connection is reset, gets a session id, or is held or
-- let go, or another application runs from now on. Connections are numbered from 1
pub data Call : Type 0 where
  Deliver : ℕ → List ℕ → Call
  Tick : Call
  Reset : ℕ → Call
  Nonce : ℕ → ℕ → Call
  Hold : ℕ → Bool → Call
  ChangeApp : AppView → Call

-- what calls mean: the connections in their order, and the application that runs
pub record Meant : Type 0 where
  pub connections : List Connection
  pub app : AppView

-- the connection with this number, if there is one
abbrev pub numbered_connection : ℕ → Meant → Option Connection
numbered_connection zero m = None
numbered_connection (suc place) m = slice_get m.connections place

-- an event at the connection with this number, if there is one, and at no other
abbrev pub event_on : ℕ → Move → List Connection → List Connection
event_on link what [] = []
event_on zero what (c ∷ cs) = c ∷ cs
event_on (suc zero) what (c ∷ cs) = with_event what c ∷ cs
event_on (suc place) what (c ∷ cs) = c ∷ event_on place what cs

abbrev pub moved_at : ℕ → Move → Meant → Meant
moved_at link what m = record m { connections = event_on link what m.connections }

-- a tick at each connection
abbrev pub all_tick : Meant → Meant
all_tick m = record m { connections = map (with_event move.Tick) m.connections }

-- what the application that runs answers, in a cycle, to the masters' outputs
abbrev pub app_answer : Bool → Meant → Answer
app_answer ticked m = m.app.rule m.app.holds ticked (map connection_outputs m.connections) (map offer_len m.connections)

-- whether a frame for a connection is taken there, or ends its session: its deed says so
abbrev pub is_heard : List ℕ → Option Connection → Bool
is_heard bytes None = false
is_heard bytes (Some c) = tells_due (next_deed (move.Deliver bytes) c).did

-- the answer of the cycle that a call runs, None where it runs none. A delivery runs one where the frame is taken or
-- ends the session, over the outputs after that frame; a tick runs one over the outputs after all connections ticked; a
-- reset runs one over the outputs after it, of which its connection's are zeros; a change of the application runs one of
-- the new application
abbrev pub cycle_in : Call → Meant → Option Answer
cycle_in (Deliver link bytes) m =
    if is_heard bytes (numbered_connection link m) then Some (app_answer false (moved_at link (move.Deliver bytes) m)) else None
cycle_in Tick m = Some (app_answer true (all_tick m))
cycle_in (Reset link) m = Some (app_answer false (moved_at link move.Local m))
cycle_in (Nonce link id) m = None
cycle_in (Hold link on) m = None
cycle_in (ChangeApp app) m = Some (app_answer false (record m { app = app }))

-- after a cycle with this answer all offers are it, and each of its output bits is 0 that the application that runs
-- guards by an input bit that is 0
pub record IsSound (m : Meant) (a : Answer) : Type 0 where
  pub answered : map offer_at m.connections ≡ a.outputs
  pub guarded : GuardsBy m.app.guards (map connection_outputs m.connections) a.outputs

-- after a cycle with this answer, its outputs are the offers of the connections, and the application holds what the
-- answer says; without a cycle nothing changes
abbrev pub with_cycle : Option Answer → Meant → Meant
with_cycle None m = m
with_cycle (Some a) m = record { connections = with_offers a.outputs m.connections; app = record m.app { holds = a.holds } }

-- what a call means after those before: in a delivery the answers are put before the deed of the frame, so that its
-- reply carries them; at a tick or a reset, whose frames carry none, after it
abbrev pub after : Call → Meant → Meant
after (Deliver link bytes) m = moved_at link (move.Deliver bytes) (with_cycle (cycle_in (Deliver link bytes) m) m)
after Tick m = with_cycle (cycle_in Tick m) (all_tick m)
after (Reset link) m = with_cycle (cycle_in (Reset link) m) (moved_at link move.Local m)
after (Nonce link id) m = moved_at link (move.Nonce id) m
after (Hold link on) m = moved_at link (move.Hold on) m
after (ChangeApp app) m = with_cycle (cycle_in (ChangeApp app) m) (record m { app = app })

-- what these calls mean, from new masters with these settings and this application on
abbrev pub meant : List MasterSettings → AppView → List Call → Meant
meant settings app [] = record { connections = map new_connection settings; app = app }
meant settings app (call ∷ calls) = after call (meant settings app calls)

-- the answers that aren't the offers of these connections already, each with the number of its connection, from n on
abbrev pub changed_from : ℕ → List Connection → List (List ℕ) → List (ℕ × List ℕ)
changed_from n (c ∷ cs) (load ∷ loads) =
    if is_offer load c then changed_from (suc n) cs loads else (n, load) ∷ changed_from (suc n) cs loads
changed_from n _ _ = []

-- the offers that a cycle changes at these connections, if one is run, in their order
abbrev pub changed_by : Option Answer → List Connection → List (ℕ × List ℕ)
changed_by None cs = []
changed_by (Some a) cs = changed_from 1 cs a.outputs
