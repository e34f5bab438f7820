-- Under a steady schedule a run of matching ends serves steadily: steady schedules bring both into Data and keep them
-- there. Under an honest one each delivery is of a frame that comes for the first time, and so the run serves.
use Rattle.exchange_model.proofs.Common.{All-cons, All-head, All-nil, All-tail, End, Entry, Event, Fair, InDataAfter, InDataThroughout, IsHonest, IsProperEvent, IsSteady, IsWorld, MasterSettings, Match, Move, Serves, ServesSteadily, SlaveSettings, State, TakesDataThroughout, TakesDelivery, TakesOnceThroughout, and_parts, comes, comes_new, deeds, end_of_event, entry_at, eqb-true, exchanges, going_on, had_tick, if_on, in_turn, is_coming, is_delivery, is_plain, is_tick, keeps_time, list_all, may_happen, number_to, peer, phase_of, phase_sent, same_end, same_phase, setup_of, slave_first, state_of, state_told, ticks_first, world, world_after}
use Rattle.std.proofs.Common.{◌≡◌, ℕ, suc, ◌+◌, ◌≤◌, nat_le, nat_lt, List, [], ◌∷◌, length, Bool, true, false, not, ◌&&◌, All, Option, Some, None, if◌then◌else◌, refl, sym, ap, ap₂, subst, ◌∙◌, arith, rules}
use Rattle.fsoe_base.specs.declared.command.End.TheVariants as end_name
use Rattle.fsoe_base.specs.declared.command.State.TheVariants as state
use Rattle.fsoe_base.specs.declared.did.Dropped.{Dropped}
use Rattle.fsoe_base.specs.declared.did.Dropped.TheVariants as why
use Rattle.param_load.specs.declared.entry.Move.TheVariants as move
use Rattle.schedule_file.specs.declared.event.Event.TheVariants as event
use Rattle.exchange_model.proofs.Honest.QuietEvents.{IsQuiet, coming_kept, comes_still, quiet_entry, quiet_enters, both_kept, quiet_tick, quiet_put, quiet_hold, quiet_nonce, quiet_repeat, AtIdle, asking_entry, first_tick}
use Rattle.exchange_model.proofs.Honest.SlaveTurn.{Accepts}
use Rattle.exchange_model.proofs.Honest.StageSteps.{AtStage, ComesTo, coming_back, Enters, Goes, Takes, reset_answer, asked_delivered, asked_again, replied_delivered, down_delivered, up_delivered, some_session, some_connection, some_parameter}
use Rattle.exchange_model.proofs.Honest.Stages.{Both, both, IsOutside, Stage, IsIdle, Asked, Replied, Down, Up}
use Rattle.exchange_model.proofs.Honest.Turns.{Partner, partner, as_partner, master_of, slave_of, session_pieces, connection_pieces, parameter_pieces, spot_after, spot_data, turn_data, at_least, none_yet}
use Rattle.exchange_model.proofs.Fairness.Headline.{fair_run}
use Rattle.schedule_file.proofs.OneSetting.{same_lengths}

-- the state that an end told last is the one that its deeds say
told-state : (ms : MasterSettings) (ss : SlaveSettings) (which : End) (w : List Entry) → IsWorld ms ss w → state_told which w ≡ state_of (setup_of ms ss which) (deeds which w)
told-state ms ss end_name.Master [] h = refl
told-state ms ss end_name.Slave [] h = refl
told-state ms ss which (x ∷ w) h = grind (arith, told-state ms ss which w h.1)

more-than : (a b c m : ℕ) → nat_lt (a + b + c) m ≡ nat_lt (1 + a + b + c) (suc m)
more-than a b c m = grind arith

not-more : (a b c m : ℕ) → m ≤ 1 → nat_lt (1 + a + b + c) m ≡ false
not-more a b c m h = grind arith

-- the states of both ends, and how many deliveries came to them
opens : (ms : MasterSettings) (r : Partner ms) (w : List Entry) (p q : State) (m n : ℕ) → IsWorld ms (partner ms r) w → state_of (master_of ms) (deeds end_name.Master w) ≡ p → state_of (slave_of ms r) (deeds end_name.Slave w) ≡ q
    → number_to comes_new end_name.Master w ≡ m → number_to comes_new end_name.Slave w ≡ n → same_phase state.Data p ≡ nat_le (exchanges ms) m → same_phase state.Data q ≡ nat_lt (exchanges ms) n → InDataAfter comes_new (exchanges ms) w
opens ms r w p q m n world a b c d e f =
    record {
      master = ap (same_phase state.Data) (told-state ms (partner ms r) end_name.Master w world ∙ a) ∙ (e ∙ ap (nat_le (exchanges ms)) (sym c));
      slave = ap (same_phase state.Data) (told-state ms (partner ms r) end_name.Slave w world ∙ b) ∙ (f ∙ ap (nat_lt (exchanges ms)) (sym d));
    }

-- where no session has begun, neither end is
outside-opens : (ms : MasterSettings) (r : Partner ms) (w : List Entry) (n : ℕ) → IsWorld ms (partner ms r) w → IsOutside (both ms r w) → number_to comes_new end_name.Master w ≡ 0 → number_to comes_new end_name.Slave w ≡ n → n ≤ 1 → InDataAfter comes_new (exchanges ms) w
outside-opens ms r w n world h none few most =
    opens ms r w state.Reset state.Reset 0 n world (ap phase_sent h.master.none_sent) h.phase none few (sym (none_yet (session_pieces ms) (connection_pieces ms) (parameter_pieces ms))) (sym (not-more (session_pieces ms) (connection_pieces ms) (parameter_pieces ms) n most))

-- a stage says which ends are in Data
stage-opens : (ms : MasterSettings) (r : Partner ms) (w : List Entry) (next : End) → IsWorld ms (partner ms r) w → AtStage ms r w next → InDataAfter comes_new (exchanges ms) w
stage-opens ms r w next world (Asked h) = outside-opens ms r w 0 world h.outside h.master_count h.slave_count (omega arith)
stage-opens ms r w next world (Replied h) = outside-opens ms r w 1 world h.begins.outside h.begins.master_count h.begins.slave_count (omega arith)
stage-opens ms r w next world (Down h) =
    opens ms r w (phase_of h.command) h.p (suc h.k) (suc h.k) world h.master.phase h.slave.phase h.master_count h.slave_count
    (spot_data _ _ _ (phase_of h.command) _ _ _ (suc h.k) (spot_after _ _ _ h.command h.p h.a h.b h.d h.k (some_session ms) (some_connection ms) (some_parameter ms) h.turn) ∙ at_least (session_pieces ms) (connection_pieces ms) (parameter_pieces ms) (suc h.k))
    (turn_data _ _ _ h.command h.p h.a h.b h.d h.k h.turn ∙ more-than (session_pieces ms) (connection_pieces ms) (parameter_pieces ms) h.k)
stage-opens ms r w next world (Up h) =
    opens ms r w (phase_of h.command) (phase_of h.command) h.k (suc h.k) world h.master.phase h.slave.phase h.master_count h.slave_count
    (spot_data _ _ _ (phase_of h.command) _ _ _ h.k h.spot ∙ at_least (session_pieces ms) (connection_pieces ms) (parameter_pieces ms) h.k)
    (spot_data _ _ _ (phase_of h.command) _ _ _ h.k h.spot ∙ more-than (session_pieces ms) (connection_pieces ms) (parameter_pieces ms) h.k)

-- each delivery is of a frame that comes for the first time
abbrev IsNew : Entry → List Entry → Type 0
IsNew x w = is_delivery x.what ≡ true → is_coming x.end w ≡ true

abbrev EachNew : List Entry → Type 0
EachNew [] = Unit {0}
EachNew (x ∷ w) = IsNew x w × EachNew w

-- what comes of a steady schedule, and of one that delivers in turn
record Served (turns : Bool) (ms : MasterSettings) (events : List Event) (w : List Entry) : Type 0 where
  steadily : ServesSteadily ms events w
  each_new : turns ≡ true → EachNew w

steadily-more : (ms : MasterSettings) (r : Partner ms) (before : List Event) (w : List Entry) (event : Event) (x : Entry) → Enters ms r w event x → InDataAfter comes_new (exchanges ms) (x ∷ w) → ServesSteadily ms before w → ServesSteadily ms (event ∷ before) (x ∷ w)
steadily-more ms r before w event x h k l = grind arith

-- what is left of a steady schedule, where the next new frame comes to this end; `turns` says that it delivers in turn
record Rest (turns : Bool) (next : End) (w : List Entry) (events : List Event) : Type 0 where
  in_turns : turns ≡ true → in_turn next events ≡ true
  asked : number_to comes_new end_name.Slave w ≡ 0 → slave_first events ≡ true

-- the master's first tick comes, or the frame on its way does
data Ready (turns : Bool) (ms : MasterSettings) (r : Partner ms) (w : List Entry) (events : List Event) : Type 0 where
  Waits : had_tick (deeds end_name.Master w) ≡ false → is_coming end_name.Master w ≡ false → AtIdle ms r w → ticks_first events ≡ true → Rest turns end_name.Slave w events → Ready turns ms r w events
  Runs : (next : End) → had_tick (deeds end_name.Master w) ≡ true → ComesTo w next → AtStage ms r w next → Rest turns next w events → Ready turns ms r w events

ready-opens : (turns : Bool) (ms : MasterSettings) (r : Partner ms) (w : List Entry) (events : List Event) → IsWorld ms (partner ms r) w → Ready turns ms r w events → InDataAfter comes_new (exchanges ms) w
ready-opens turns ms r w events world (Waits had none idle first rest) = outside-opens ms r w 0 world idle.outside idle.master_count idle.slave_count (omega arith)
ready-opens turns ms r w events world (Runs next had coming stage rest) = stage-opens ms r w next world stage

-- a master that had a tick has had it
ticked-more : (x : Entry) (w : List Entry) → had_tick (deeds end_name.Master w) ≡ true → had_tick (deeds end_name.Master (x ∷ w)) ≡ true
ticked-more x w h = grind arith

stage-kept : (ms : MasterSettings) (r : Partner ms) (w : List Entry) (at : End) (what : Move) (dropped : Option Dropped) (next : End) → (is_delivery what && is_coming at w) ≡ false → AtStage ms r w next → AtStage ms r (quiet_entry ms r w at what dropped ∷ w) next
stage-kept ms r w at what dropped next h stage = subst (λ (x : Both). Stage ms r x next) (sym (both_kept ms r w at what dropped h)) stage

untold : (ms : MasterSettings) (r : Partner ms) (w : List Entry) (at : End) (what : Move) → (is_tick what && same_end end_name.Master at) ≡ false → had_tick (deeds end_name.Master w) ≡ false
    → had_tick (deeds end_name.Master (quiet_entry ms r w at what None ∷ w)) ≡ false
untold ms r w at what h k = grind arith

-- no new frame came to the slave
count-kept : (ms : MasterSettings) (r : Partner ms) (w : List Entry) (at : End) (what : Move) (dropped : Option Dropped) → (is_delivery what && is_coming at w) ≡ false
    → number_to comes_new end_name.Slave (quiet_entry ms r w at what dropped ∷ w) ≡ number_to comes_new end_name.Slave w
count-kept ms r w at what dropped h = ap (λ (x : Both). x.to_slave) (both_kept ms r w at what dropped h)

-- an event that delivers nothing
record IsStill (event : Event) (events : List Event) (what : Move) : Type 0 where
  none_comes : is_delivery what ≡ false
  same_turns : (next : End) → in_turn next (event ∷ events) ≡ in_turn next events
  same_first : slave_first (event ∷ events) ≡ slave_first events

not-new : (a b : Bool) → a ≡ false → (a && b) ≡ false
not-new a b h = ap (λ a. a && b) h

rest-kept : (turns : Bool) (ms : MasterSettings) (r : Partner ms) (w : List Entry) (at next : End) (what : Move) (event : Event) (events : List Event) → IsStill event events what → Rest turns next w (event ∷ events)
    → Rest turns next (quiet_entry ms r w at what None ∷ w) events
rest-kept turns ms r w at next what event events h rest =
    record {
      in_turns = λ t. sym (h.same_turns next) ∙ rest.in_turns t;
      asked = λ z. sym h.same_first ∙ rest.asked (sym (count-kept ms r w at what None (not-new _ _ h.none_comes)) ∙ z);
    }

still-runs : (turns : Bool) (ms : MasterSettings) (r : Partner ms) (w : List Entry) (at : End) (what : Move) (event : Event) (events : List Event) → IsStill event events what → (next : End) → had_tick (deeds end_name.Master w) ≡ true → ComesTo w next → AtStage ms r w next
    → Rest turns next w (event ∷ events) → Ready turns ms r (quiet_entry ms r w at what None ∷ w) events
still-runs turns ms r w at what event events h next had coming stage rest =
    let n = not-new (is_delivery what) (is_coming at w) h.none_comes in
    Runs next (ticked-more (quiet_entry ms r w at what None) w had) (comes_still ms r w at next what None n coming) (stage-kept ms r w at what None next n stage) (rest-kept turns ms r w at next what event events h rest)

-- a quiet event but the master's first tick leaves what is left
quiet-ready : (turns : Bool) (ms : MasterSettings) (r : Partner ms) (w : List Entry) (at : End) (what : Move) (event : Event) (events : List Event) → IsStill event events what → (is_tick what && same_end end_name.Master at) ≡ false
    → ticks_first (event ∷ events) ≡ ticks_first events → Ready turns ms r w (event ∷ events) → Ready turns ms r (quiet_entry ms r w at what None ∷ w) events
quiet-ready turns ms r w at what event events h k same (Waits had none idle first rest) =
    let n = not-new (is_delivery what) (is_coming at w) h.none_comes in
    Waits (untold ms r w at what k had) (coming_kept ms r w at end_name.Master what None n ∙ none) (subst (λ (x : Both). IsIdle x) (sym (both_kept ms r w at what None n)) idle) (sym same ∙ first)
    (rest-kept turns ms r w at end_name.Slave what event events h rest)
quiet-ready turns ms r w at what event events h k same (Runs next had coming stage rest) = still-runs turns ms r w at what event events h next had coming stage rest

-- what an event of a steady schedule leads to
abbrev Leads : Bool → (ms : MasterSettings) → Partner ms → List Entry → Event → List Event → Type 0
Leads turns ms r w event events = (x : Entry) × Enters ms r w event x × Ready turns ms r (x ∷ w) events × (turns ≡ true → IsNew x w)

quiet-leads : (turns : Bool) (ms : MasterSettings) (r : Partner ms) (w : List Entry) (event : Event) (what : Move) (events : List Event) → IsStill event events what → IsQuiet ms r w event what None
    → Ready turns ms r (quiet_entry ms r w (end_of_event event) what None ∷ w) events → Leads turns ms r w event events
quiet-leads turns ms r w event what events still q ready =
    (quiet_entry ms r w (end_of_event event) what None, quiet_enters ms r w event what None q, ready, λ t k. let c : true ≡ false = sym k ∙ still.none_comes in cc)

still-leads : (turns : Bool) (ms : MasterSettings) (r : Partner ms) (w : List Entry) (event : Event) (what : Move) (events : List Event) → IsStill event events what → IsQuiet ms r w event what None
    → (is_tick what && same_end end_name.Master (end_of_event event)) ≡ false → ticks_first (event ∷ events) ≡ ticks_first events → Ready turns ms r w (event ∷ events) → Leads turns ms r w event events
still-leads turns ms r w event what events still q k same ready = quiet-leads turns ms r w event what events still q (quiet-ready turns ms r w (end_of_event event) what event events still k same ready)

new-enters : (ms : MasterSettings) (r : Partner ms) (w : List Entry) (to : End) (x : Entry) → Takes ms r w to x → is_coming x.end w ≡ true → Enters ms r w (event.Deliver to 1) x
new-enters ms r w to x h here =
    let new : comes_new x w ≡ true = ap₂ (λ (a b : Bool). a && b) h.delivers here in
    record {
      is = h.is;
      follows = h.follows;
      not_other = h.not_other;
      no_reset = h.no_reset;
      once = record { taken = λ k. h.taken; repeated = λ k. let c : true ≡ false = sym k ∙ ap₂ (λ (a b : Bool). a && not b) h.delivers here in cc };
      takes_data = h.takes_data ∙ sym (ap (λ b. b && nat_le (exchanges ms) (number_to comes_new x.end w)) new);
    }

-- the frame on its way comes
new-leads : (turns : Bool) (ms : MasterSettings) (r : Partner ms) (w : List Entry) (to : End) (events : List Event) → had_tick (deeds end_name.Master w) ≡ true → ComesTo w to → Rest turns to w (event.Deliver to 1 ∷ events) → (goes : Goes ms r w to)
    → (number_to comes_new end_name.Slave (goes.0 ∷ w) ≡ 0 → ⊥) → Leads turns ms r w (event.Deliver to 1) events
new-leads turns ms r w to events had coming rest goes some =
    let x : Entry = goes.0 in
    let takes : Takes ms r w to x = goes.1 in
    let here : is_coming x.end w ≡ true = ap (λ which. is_coming which w) takes.at ∙ coming.here in (
      x,
      new-enters ms r w to x takes here,
      Runs (peer to) (ticked-more x w had) (coming_back w x to takes.at takes.delivers takes.answers) goes.2
          (record { in_turns = λ t. (and_parts (same_end to to) (in_turn (peer to) events) (rest.in_turns t)).1; asked = λ z. absurd (some z) }),
      λ t k. here,
    )

-- a frame that comes again is not in turn
off-turn : (turns : Bool) (to next : End) (w : List Entry) (events : List Event) → same_end to next ≡ false → Rest turns next w (event.Deliver to 1 ∷ events) → turns ≡ true → ⊥
off-turn turns to next w events h rest t =
    let k = and_parts (same_end to next) (in_turn (peer next) events) (rest.in_turns t) in
    let c : true ≡ false = sym k.0 ∙ h in cc

-- a frame that was taken comes again
repeat-leads : (turns : Bool) (ms : MasterSettings) (r : Partner ms) (w : List Entry) (to next : End) (f : List ℕ) (events : List Event) → same_end to next ≡ false → had_tick (deeds end_name.Master w) ≡ true → ComesTo w next → AtStage ms r w next
    → Rest turns next w (event.Deliver to 1 ∷ events) → (number_to comes_new end_name.Slave w ≡ 0 → ⊥) → IsQuiet ms r w (event.Deliver to 1) (move.Deliver f) (Some why.Repeat) → Leads turns ms r w (event.Deliver to 1) events
repeat-leads turns ms r w to next f events other had coming stage rest some q =
    let x : Entry = quiet_entry ms r w to (move.Deliver f) (Some why.Repeat) in (
      x,
      quiet_enters ms r w (event.Deliver to 1) (move.Deliver f) (Some why.Repeat) q,
      Runs next (ticked-more x w had) (comes_still ms r w to next (move.Deliver f) (Some why.Repeat) q.none_new coming) (stage-kept ms r w to (move.Deliver f) (Some why.Repeat) next q.none_new stage)
          (record { in_turns = λ t. absurd (off-turn turns to next w events other rest t); asked = λ z. absurd (some (sym (count-kept ms r w to (move.Deliver f) (Some why.Repeat) q.none_new) ∙ z)) }),
      λ t. absurd (off-turn turns to next w events other rest t),
    )

-- while an answer is on its way the slave has heard the master
heard : (ms : MasterSettings) (r : Partner ms) (w : List Entry) → AtStage ms r w end_name.Master → number_to comes_new end_name.Slave w ≡ 0 → ⊥
heard ms r w (Replied h) z = let one : number_to comes_new end_name.Slave w ≡ 1 = h.begins.slave_count in cc
heard ms r w (Up h) z = let more : number_to comes_new end_name.Slave w ≡ suc h.k = h.slave_count in cc

-- a frame that comes to the master doesn't count for the slave
heard-still : (ms : MasterSettings) (r : Partner ms) (w : List Entry) (x : Entry) → x.end ≡ end_name.Master → AtStage ms r w end_name.Master → number_to comes_new end_name.Slave (x ∷ w) ≡ 0 → ⊥
heard-still ms r w x at stage z = heard ms r w stage (sym (ap (λ (which : End). if same_end end_name.Slave which && comes_new x w then suc (number_to comes_new end_name.Slave w) else number_to comes_new end_name.Slave w) at) ∙ z)

-- a delivery, to the end whose turn it is or to its peer
delivery-leads : (turns : Bool) (ms : MasterSettings) (r : Partner ms) (w : List Entry) (to next : End) (events : List Event) → Accepts ms r → IsWorld ms (partner ms r) w → had_tick (deeds end_name.Master w) ≡ true → ComesTo w next → AtStage ms r w next
    → Rest turns next w (event.Deliver to 1 ∷ events) → Leads turns ms r w (event.Deliver to 1) events
delivery-leads turns ms r w end_name.Slave end_name.Slave events accepts world had coming (Asked h) rest =
    let goes = asked_delivered ms r w coming.here h in new-leads turns ms r w end_name.Slave events had coming rest goes (heard ms r (goes.0 ∷ w) goes.2)
delivery-leads turns ms r w end_name.Slave end_name.Slave events accepts world had coming (Down h) rest =
    let goes = down_delivered ms r w accepts world coming.here h in
    new-leads turns ms r w end_name.Slave events had coming rest goes (heard ms r (goes.0 ∷ w) goes.2)
delivery-leads turns ms r w end_name.Master end_name.Master events accepts world had coming (Replied h) rest =
    let goes = replied_delivered ms r w coming.here h in
    new-leads turns ms r w end_name.Master events had coming rest goes (heard-still ms r w goes.0 goes.1.at (Replied h))
delivery-leads turns ms r w end_name.Master end_name.Master events accepts world had coming (Up h) rest =
    let goes = up_delivered ms r w world coming.here h in
    new-leads turns ms r w end_name.Master events had coming rest goes (heard-still ms r w goes.0 goes.1.at (Up h))
delivery-leads turns ms r w end_name.Master end_name.Slave events accepts world had coming (Asked h) rest =
    let k : false ≡ true = rest.asked h.slave_count in
    absurd (cc k)
delivery-leads turns ms r w end_name.Master end_name.Slave events accepts world had coming (Down h) rest =
    repeat-leads turns ms r w end_name.Master end_name.Slave h.before.frame events refl had coming (Down h) rest (λ z. let more : number_to comes_new end_name.Slave w ≡ suc h.k = h.slave_count in cc)
    (quiet_repeat ms r w end_name.Master ms.lengths.slave h.before refl coming.none_back)
delivery-leads turns ms r w end_name.Slave end_name.Master events accepts world had coming (Up h) rest =
    repeat-leads turns ms r w end_name.Slave end_name.Master h.before.frame events refl had coming (Up h) rest (heard ms r w (Up h)) (quiet_repeat ms r w end_name.Slave ms.lengths.master h.before refl coming.none_back)
delivery-leads turns ms r w end_name.Slave end_name.Master events accepts world had coming (Replied h) rest =
    let again = asked_again ms r w coming.none_back h in (
      reset_answer ms r w,
      again.0,
      Runs end_name.Master (ticked-more (reset_answer ms r w) w had) (coming_back w (reset_answer ms r w) end_name.Slave refl refl refl) (Replied again.1)
          (record { in_turns = λ t. absurd (off-turn turns end_name.Slave end_name.Master w events refl rest t); asked = λ z. absurd (heard ms r (reset_answer ms r w ∷ w) (Replied again.1) z) }),
      λ t. absurd (off-turn turns end_name.Slave end_name.Master w events refl rest t),
    )

-- each event of a steady schedule leaves the rest of it
event-leads : (turns : Bool) (ms : MasterSettings) (r : Partner ms) (w : List Entry) (event : Event) (events : List Event) → Accepts ms r → IsWorld ms (partner ms r) w → IsProperEvent ms (partner ms r) event → is_plain event ≡ true
    → may_happen ms (partner ms r) w event ≡ true → Ready turns ms r w (event ∷ events) → Leads turns ms r w event events
event-leads turns ms r w (event.Deliver to back) events accepts world proper plain may (Waits had none idle first rest) = absurd (cc first)
event-leads turns ms r w (event.Deliver to back) events accepts world proper plain may (Runs next had coming stage rest) =
    subst (λ (back : ℕ). Rest turns next w (event.Deliver to back ∷ events) → Leads turns ms r w (event.Deliver to back) events) (sym (eqb-true back 1 plain)) (delivery-leads turns ms r w to next events accepts world had coming stage) rest
event-leads turns ms r w (event.Tick end_name.Master) events accepts world proper plain may (Waits had none idle first rest) =
    let asks = first_tick ms r w may had idle in
    (asking_entry ms r w, asks.0, Runs end_name.Slave refl (record { here = refl; none_back = none }) asks.1 (record { in_turns = rest.in_turns; asked = rest.asked }), λ t k. let c : false ≡ true = k in cc)
event-leads turns ms r w (event.Tick end_name.Master) events accepts world proper plain may (Runs next had coming stage rest) =
    let still : IsStill (event.Tick end_name.Master) events move.Tick = record { none_comes = refl; same_turns = λ n. refl; same_first = refl } in
    quiet-leads turns ms r w (event.Tick end_name.Master) move.Tick events still (quiet_tick ms r w end_name.Master may (λ k. had)) (still-runs turns ms r w end_name.Master move.Tick (event.Tick end_name.Master) events still next had coming stage rest)
event-leads turns ms r w (event.Tick end_name.Slave) events accepts world proper plain may ready =
    still-leads turns ms r w (event.Tick end_name.Slave) move.Tick events (record { none_comes = refl; same_turns = λ n. refl; same_first = refl }) (quiet_tick ms r w end_name.Slave may (λ k. cc)) refl refl ready
event-leads turns ms r w (event.Put at load) events accepts world proper plain may ready =
    still-leads turns ms r w (event.Put at load) (move.Put load) events (record { none_comes = refl; same_turns = λ n. refl; same_first = refl }) (quiet_put ms r w at load proper) refl refl ready
event-leads turns ms r w (event.Hold at failsafe) events accepts world proper plain may ready =
    still-leads turns ms r w (event.Hold at failsafe) (move.Hold failsafe) events (record { none_comes = refl; same_turns = λ n. refl; same_first = refl }) (quiet_hold ms r w at failsafe) refl refl ready
event-leads turns ms r w (event.Nonce at id) events accepts world proper plain may ready =
    still-leads turns ms r w (event.Nonce at id) (move.Nonce id) events (record { none_comes = refl; same_turns = λ n. refl; same_first = refl }) (quiet_nonce ms r w at id proper) refl refl ready
event-leads turns ms r w _ events accepts world proper plain may ready = absurd (cc plain)

-- along the events, which with those before are as many as all
serves-on : (turns : Bool) (ms : MasterSettings) (r : Partner ms) (events before all : List Event) (w : List Entry) → length events + length before ≡ length all → Accepts ms r → IsWorld ms (partner ms r) w → Served turns ms before w → Ready turns ms r w events
    → All (IsProperEvent ms (partner ms r)) events → list_all is_plain events ≡ true → keeps_time ms (partner ms r) events w ≡ true → Served turns ms all (world_after ms (partner ms r) events w)
serves-on turns ms r [] before all w long accepts world served ready proper plain time =
    let s : ServesSteadily ms before w = served.steadily in
    let so_far : length w ≡ length before = s.whole in
    record { steadily = record { whole = omega arith; no_other = s.no_other; no_reset = s.no_reset; once = s.once; reaches_data = s.reaches_data; takes_data = s.takes_data }; each_new = served.each_new }
serves-on turns ms r (event ∷ events) before all w long accepts world served ready proper plain time =
    let p = and_parts (is_plain event) (list_all is_plain events) plain in
    let t = and_parts (may_happen ms (partner ms r) w event) (if_on w (entry_at ms (partner ms r) w event) (keeps_time ms (partner ms r) events)) time in
    let next : Leads turns ms r w event events = event-leads turns ms r w event events accepts world (All-head (IsProperEvent ms (partner ms r)) event events proper) p.0 t.0 ready in
    let x : Entry = next.0 in
    let enters : Enters ms r w event x = next.1 in
    let kept : keeps_time ms (partner ms r) events (x ∷ w) ≡ true = sym (ap (λ (o : Option Entry). if_on w o (keeps_time ms (partner ms r) events)) enters.is) ∙ t.1 in
    let more : IsWorld ms (partner ms r) (x ∷ w) = (enters.follows, world) in
    subst (λ (o : Option Entry). Served turns ms all (going_on w o (world_after ms (partner ms r) events))) (sym enters.is)
    (serves-on turns ms r events (event ∷ before) all (x ∷ w) (omega arith) accepts more (record { steadily = steadily-more ms r before w event x enters (ready-opens turns ms r (x ∷ w) events more next.2) served.steadily; each_new = λ t. (next.3 t, served.each_new t) }) next.2
    (All-tail (IsProperEvent ms (partner ms r)) event events proper) p.1 kept)

-- a partner's run serves
partner-serves : (turns : Bool) (ms : MasterSettings) (r : Partner ms) (events : List Event) → Accepts ms r → All (IsProperEvent ms (partner ms r)) events → IsSteady ms (partner ms r) events → (turns ≡ true → in_turn end_name.Slave events ≡ true)
    → Served turns ms events (world ms (partner ms r) events)
partner-serves turns ms r events accepts proper steady in_turns =
    let before : ServesSteadily ms [] [] = search rules in
    let ready : Ready turns ms r [] events = Waits refl refl (search rules) steady.begun (record { in_turns = in_turns; asked = λ z. steady.asked }) in
    serves-on turns ms r events [] events [] (omega arith) accepts tt (record { steadily = before; each_new = λ t. tt }) ready proper steady.plain steady.time

served : (turns : Bool) (ms : MasterSettings) (ss : SlaveSettings) (events : List Event) → Match ms ss → All (IsProperEvent ms ss) events → IsSteady ms ss events → (turns ≡ true → in_turn end_name.Slave events ≡ true) → Served turns ms events (world ms ss events)
served turns ms ss events m =
    let p = as_partner ms ss (same_lengths ms.lengths ss.lengths m.same_lengths.master m.same_lengths.slave) m.same_address m.same_profile in
    subst (λ (ss : SlaveSettings). Match ms ss → All (IsProperEvent ms ss) events → IsSteady ms ss events → (turns ≡ true → in_turn end_name.Slave events ≡ true) → Served turns ms events (world ms ss events)) p.1
    (λ m. partner-serves turns ms p.0 events (record { watchdog = m.watchdog_accepted; as_many = m.as_many_parameters; allowed = m.parameters_allowed })) m

pub steady_serves : (ms : MasterSettings) (ss : SlaveSettings) (events : List Event) → Match ms ss → All (IsProperEvent ms ss) events → IsSteady ms ss events → ServesSteadily ms events (world ms ss events)
steady_serves ms ss events m proper steady = (served false ms ss events m proper steady (λ t. cc)).steadily

pub steady_fair : (ms : MasterSettings) (ss : SlaveSettings) (events : List Event) → Match ms ss → All (IsProperEvent ms ss) events → IsSteady ms ss events → Fair ms.lengths (world ms ss events)
steady_fair ms ss events m proper steady =
    let s : ServesSteadily ms events (world ms ss events) = steady_serves ms ss events m proper steady in
    fair_run ms ss events m.same_lengths proper s.no_other

-- where each frame that comes is new, both tests say the same
new-is : (a b : Bool) → (a ≡ true → b ≡ true) → (a && b) ≡ a
new-is a b h = grind arith

same-number : (which : End) (w : List Entry) → EachNew w → number_to comes_new which w ≡ number_to comes which w
same-number which [] h = refl
same-number which (x ∷ w) h =
    ap₂ (λ (b : Bool) (n : ℕ). if same_end which x.end && b then suc n else n) (new-is (is_delivery x.what) (is_coming x.end w) h.0) (same-number which w h.1)

same-opens : (n : ℕ) (w : List Entry) → EachNew w → InDataAfter comes_new n w → InDataAfter comes n w
same-opens n w h k =
    record { master = k.master ∙ ap (nat_le n) (same-number end_name.Master w h); slave = k.slave ∙ ap (nat_lt n) (same-number end_name.Slave w h) }

same-reaches : (n : ℕ) (w : List Entry) → EachNew w → InDataThroughout comes_new n w → InDataThroughout comes n w
same-reaches n [] h k = same-opens n [] h k
same-reaches n (x ∷ w) h k = (same-opens n (x ∷ w) h k.0, same-reaches n w h.1 k.1)

same-data : (n : ℕ) (w : List Entry) → EachNew w → TakesDataThroughout comes_new n w → TakesDataThroughout comes n w
same-data n [] h k = tt
same-data n (x ∷ w) h k =
    (k.0 ∙ ap₂ (λ (b : Bool) (m : ℕ). b && nat_le n m) (new-is (is_delivery x.what) (is_coming x.end w) h.0) (same-number x.end w h.1), same-data n w h.1 k.1)

each-taken : (w : List Entry) → EachNew w → TakesOnceThroughout w → All TakesDelivery w
each-taken [] h k = All-nil TakesDelivery
each-taken (x ∷ w) h k = All-cons TakesDelivery x w (λ d. k.0.taken (new-is (is_delivery x.what) (is_coming x.end w) h.0 ∙ d)) (each-taken w h.1 k.1)

pub honest_serves : (ms : MasterSettings) (ss : SlaveSettings) (events : List Event) → Match ms ss → All (IsProperEvent ms ss) events → IsHonest ms ss events → Serves ms events (world ms ss events)
honest_serves ms ss events m proper honest =
    let w : List Entry = world ms ss events in
    let all : Served true ms events w = served true ms ss events m proper honest.steady (λ t. honest.turns) in
    let s : ServesSteadily ms events w = all.steadily in
    let new : EachNew w = all.each_new refl in
    record {
      whole = s.whole;
      no_other = s.no_other;
      no_reset = s.no_reset;
      taken = each-taken w new s.once;
      reaches_data = same-reaches (exchanges ms) w new s.reaches_data;
      takes_data = same-data (exchanges ms) w new s.takes_data;
    }

pub honest_fair : (ms : MasterSettings) (ss : SlaveSettings) (events : List Event) → Match ms ss → All (IsProperEvent ms ss) events → IsHonest ms ss events → Fair ms.lengths (world ms ss events)
honest_fair ms ss events m proper honest = steady_fair ms ss events m proper honest.steady
