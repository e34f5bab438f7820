-- The world over the schedule of a trace: one frame for each of the trace, each from the end whose turn it is, and
-- after them the last is on its way.
use Rattle.trace_diag.proofs.Common.{same_Some, Accepts, AtIdle, End, Entry, Event, IsProperEvent, MasterSettings, Noted, OfMaster, Partner, answer_events, asking_entry, command_in, first_tick, frame_of, going_on, length-append, length-replicate, length_of, partner, peer, read_schedule, reset_frame, sent_in, step, turn, world, world_after, world_on}
use Rattle.std.proofs.Common.{◌≡◌, ℕ, suc, ◌-◌, ◌<◌, nat_le, List, [], ◌∷◌, length, replicate, true, Option, refl, sym, ap, subst, ◌∙◌, arith, rules}
use Rattle.fsoe_base.specs.declared.command.End.TheVariants as end_name
use Rattle.param_load.specs.declared.entry.Move.TheVariants as move
use Rattle.schedule_file.specs.declared.event.Event.TheVariants as event
use Rattle.end_model.specs.Entries.{entry_of}
use Rattle.exchange_model.proofs.Honest.OnItsWay.{fresh}
use Rattle.exchange_model.proofs.Honest.StageSteps.{Enters}
use Rattle.trace_diag.proofs.Running.{Answers, IsOn, answer_on}

-- the world over the schedule of a trace with a frame: each event has its entry, and the last frame is on its way
pub record Runs (ms : MasterSettings) (r : Partner ms) (t : List Noted) : Type 0 where
  pub whole : length (world ms (partner ms r) (read_schedule ms.lengths t)) ≡ length (read_schedule ms.lengths t)
  pub on : IsOn ms r (world ms (partner ms r) (read_schedule ms.lengths t)) (turn t)

ticks : (w : ℕ) → 0 < w → nat_le w (suc (w - 1)) ≡ true
ticks w h = grind arith

idle : (ms : MasterSettings) (r : Partner ms) → AtIdle ms r []
idle ms r = record { outside = record { master = fresh; slave = fresh; no_id = refl; phase = refl; none_joined = λ phase. refl }; master_count = refl; slave_count = refl }

-- at the master's first tick its Reset frame is sent
first-entry : (ms : MasterSettings) (x : Entry) → entry_of (OfMaster ms) [] (step (OfMaster ms) [] move.Tick) ≡ x → sent_in (x ∷ []) ≡ record { from = end_name.Master; frame = reset_frame 0 ms.lengths.master } ∷ []
first-entry ms x h = search rules

pub first_runs : (ms : MasterSettings) (r : Partner ms) (x : Noted) → Runs ms r (x ∷ []) × (sent_in (world ms (partner ms r) (read_schedule ms.lengths (x ∷ []))) ≡ record { from = end_name.Master; frame = reset_frame 0 ms.lengths.master } ∷ [])
first_runs ms r x =
    let first = first_tick ms r [] (ticks ms.watchdog ms.some_watchdog) refl (idle ms r) in
    let y : Entry = asking_entry ms r [] in
    let enters : Enters ms r [] (event.Tick end_name.Master) y = first.0 in
    let goes : world ms (partner ms r) (event.Tick end_name.Master ∷ []) ≡ y ∷ [] = ap (λ (e : Option Entry). going_on [] e (world_after ms (partner ms r) [])) enters.is in (
      assumption (ap (length {A = Entry}) goes, subst (λ (w : List Entry). IsOn ms r w end_name.Slave) (sym goes) (record { is_world = (enters.follows, tt); stage = first.1; coming = record { here = refl; none_back = refl } })),
      ap sent_in goes ∙ first-entry ms y (same_Some (entry_of (OfMaster ms) [] (step (OfMaster ms) [] move.Tick)) y enters.is),
    )

-- a put of as many bytes as an end sends is proper
proper : (ms : MasterSettings) (r : Partner ms) (at : End) (load : List ℕ) → length load ≡ length_of ms.lengths at → IsProperEvent ms (partner ms r) (event.Put at load)
proper ms r at load h = grind arith

-- the events before one more frame, which an end answers the frame on its way with
pub record Steps (ms : MasterSettings) (r : Partner ms) (x : Noted) (t : List Noted) : Type 0 where
  pub answers : Answers ms r (answer_events (turn t) (length_of ms.lengths (turn t)) x.frame) (world ms (partner ms r) (read_schedule ms.lengths t)) (turn t) (command_in x.frame) (frame_of (length_of ms.lengths (turn t)) x.frame).load
  pub goes : world ms (partner ms r) (read_schedule ms.lengths (x ∷ t)) ≡ answers.reaches.entry ∷ answers.reaches.set

pub steps : (ms : MasterSettings) (r : Partner ms) (x y : Noted) (t : List Noted) → Accepts ms r → length (frame_of (length_of ms.lengths (turn (y ∷ t))) x.frame).load ≡ length_of ms.lengths (turn (y ∷ t))
    → Runs ms r (y ∷ t) → Steps ms r x (y ∷ t)
steps ms r x y t accepts fits runs =
    let at : End = turn (y ∷ t) in
    let l : ℕ = length_of ms.lengths at in
    let log : List Event = read_schedule ms.lengths (y ∷ t) in
    let load : List ℕ = (frame_of l x.frame).load in
    let answers = answer_on ms r (world ms (partner ms r) log) at (command_in x.frame) l load accepts (proper ms r at (replicate l 0) (length-replicate l 0)) (proper ms r at load fits) runs.on in
    record { answers = answers; goes = world_on ms (partner ms r) log (answer_events at l x.frame) runs.whole ∙ answers.reaches.is }

pub next_runs : (ms : MasterSettings) (r : Partner ms) (x y : Noted) (t : List Noted) → Accepts ms r → length (frame_of (length_of ms.lengths (turn (y ∷ t))) x.frame).load ≡ length_of ms.lengths (turn (y ∷ t))
    → Runs ms r (y ∷ t) → Runs ms r (x ∷ y ∷ t)
next_runs ms r x y t accepts fits runs =
    let at : End = turn (y ∷ t) in
    let s : Steps ms r x (y ∷ t) = steps ms r x y t accepts fits runs in
    let events : List Event = answer_events at (length_of ms.lengths at) x.frame in
    record {
      whole = ap (length {A = Entry}) s.goes ∙ (s.answers.reaches.whole ∙ (let all = length-append (read_schedule ms.lengths (y ∷ t)) events in omega (arith, runs.whole, all)));
      on = subst (λ (w : List Entry). IsOn ms r w (peer at)) (sym s.goes) s.answers.reaches.on;
    }
