-- Why a drive is off in time. The master of the e-stop has its bit as 0 from some tick on; each cycle from that tick's
-- on answers the drive's bit as 0, so that its master offers it so; and its slave has it as 0 some ticks later. Acts
-- and entries are listed newest first, steps oldest first.
use Rattle.plant_model.proofs.Common.{Act, Answer, Beginning, BoundSpec, End, Entry, HasLinks, IfSome, IsTrue, IsWorld, JournalStep, LinkConf, NoOther, Reacts, SameLengths, StaysOff, append-nil, bit_at, bit_of, cases_lt, cond, act_cycle, deeds, event_keeps, inputs_after, is_drive_on, is_tick_step, journal, link_at, of_end, offers, offers_after, older_clean, out, connection_outputs, outputs_due, pair, pulled_in, received_len, setup_of, steps_of, sum_by-append, journal_ticks}
use Rattle.std.proofs.Common.{◌≡◌, ◌≤◌, ◌<◌, inl, inr, ℕ, ◌+◌, ◌-◌, ◌*◌, Bool, false, List, [], ◌∷◌, ◌++◌, Option, Some, None, refl, sym, ap, subst, ◌∙◌, append_assoc, arith, rules}
use Rattle.fsoe_base.specs.declared.command.End.TheVariants as side
use Rattle.exchange_model.proofs.Offering.Offered.{was_offered}
use Rattle.plant_model.proofs.FairPlant.{AreWorlds, world_at}
use Rattle.plant_model.proofs.Growing.{pair_back}
use Rattle.plant_model.proofs.KeptOff.{bit_in, offered_zero, out_due}
use Rattle.plant_model.proofs.Since.{Quiet, act_ticks, ends_in, is_tick_act, part_silent, quiet_act, quiet_silent}

-- a pair that is a world without another entry
pub record Clean (link : LinkConf) (k : ℕ) (steps : List JournalStep) : Type 0 where
  pub lengths : SameLengths link.master link.slave
  pub world : IsWorld link.master link.slave (pair link k steps)
  pub none : NoOther (pair link k steps)

pub clean_before : (link : LinkConf) (k : ℕ) (before more : List JournalStep) → Clean link k (before ++ more) → Clean link k before
clean_before link k before more c = record {
  lengths = c.lengths;
  world = pair_back (IsWorld link.master link.slave) (λ x w all. all.1) link k before more c.world;
  none = pair_back NoOther (λ x w all. older_clean (x ∷ []) w all) link k before more c.none;
}

-- an end whose peer offered a bit as 0 for that long has it as 0
off_by : (watchdog from now : ℕ) (on : Bool) → (IsTrue on → now ≤ from + (2 * watchdog - 2)) → 0 < watchdog → from + 2 * watchdog ≤ now + 1 → on ≡ false
off_by watchdog from now on h k l = grind arith

off_since : (which : End) (bit : ℕ) (link : LinkConf) (k from : ℕ) (js : List JournalStep) → Quiet which bit link k from js → Clean link k js → from + 2 * link.master.watchdog ≤ journal_ticks js + 1
    → bit_of (out (setup_of link.master link.slave which) (deeds which (pair link k js))) bit ≡ false
off_since which bit link k from js quiet c many =
    let w : List Entry = pair link k js in
    ap (λ (load : List ℕ). bit_of load bit) (out_due link.master link.slave which w c.lengths c.world)
    ∙ off_by link.master.watchdog from (journal_ticks js) (bit_of (outputs_due (received_len link.master.lengths which) (of_end which w)) bit)
    (λ on. quiet _ (was_offered link.master link.slave which bit w c.lengths c.world c.none on)) link.master.some_watchdog many

quiet_off : (b : Beginning) (bound : BoundSpec) (estop : LinkConf) (later earlier : List Act) → link_at b.links bound.estop.link ≡ Some estop → StaysOff b bound later earlier
    → Quiet side.Master bound.estop.bit estop bound.estop.link (journal_ticks (journal b earlier)) (journal b (later ++ earlier))
quiet_off b bound estop [] earlier e q = λ most was. omega arith
quiet_off b bound estop (act ∷ later) earlier e q =
    let off = q.0 in
    quiet_act side.Master bound.estop.bit estop bound.estop.link _ b act (later ++ earlier) (grind arith) (quiet_off b bound estop later earlier e q.2)

-- by whether a cycle was run
by_cycle : (X Y : Type 0) (was o : Option Answer) → was ≡ o → IfSome was (λ a. X → Y) → X → (was ≡ None → Y) → Y
by_cycle X Y was o h k l m = grind arith

-- the application reads the e-stop as 0 some ticks later, and the master of the drive offers its bit as 0 from then on
offer_off : (b : Beginning) (bound : BoundSpec) (estop : LinkConf) (later earlier : List Act) → link_at b.links bound.estop.link ≡ Some estop → StaysOff b bound later earlier
    → Clean estop bound.estop.link (journal b (later ++ earlier)) → journal_ticks (journal b earlier) + 2 * estop.master.watchdog ≤ journal_ticks (journal b (later ++ earlier)) + 1
    → bit_at (offers_after b (later ++ earlier)) bound.drive ≡ false
offer_off b bound estop [] earlier e q c many = let some : 0 < estop.master.watchdog = estop.master.some_watchdog in absurd (omega arith)
offer_off b bound estop (act ∷ later) earlier e q c many =
    let done : List Act = later ++ earlier in
    by_cycle (bit_at (inputs_after b (act ∷ done)) bound.estop ≡ false) (bit_at (offers_after b (act ∷ done)) bound.drive ≡ false) (act_cycle b act done) (act_cycle b act done) refl q.1
    (bit_in connection_outputs b bound.estop.bit (act ∷ done) bound.estop.link estop e ∙ off_since side.Master bound.estop.bit estop bound.estop.link (journal_ticks (journal b earlier)) (journal b (act ∷ done)) (quiet_off b bound estop (act ∷ later) earlier e q) c many)
    (λ none.
    let kept : offers_after b (act ∷ done) ≡ offers_after b done = search (rules, event_keeps) in
    let quiet : is_tick_act act ≡ false = grind arith in
    let same : journal_ticks (journal b (act ∷ done)) ≡ journal_ticks (journal b done) + 0 = act_ticks b act done ∙ ap (λ (z : Bool). journal_ticks (journal b done) + cond z 1 0) quiet in
    ap (λ (images : List (List ℕ)). bit_at images bound.drive) kept
    ∙ offer_off b bound estop later earlier e q.2 (clean_before estop bound.estop.link (journal b done) (steps_of act (offers b act done)) c) (omega arith))

-- so since the tick in which that began it sent no data that offer the bit as 1
kept_off : (b : Beginning) (bound : BoundSpec) (estop drive : LinkConf) (later earlier : List Act) → HasLinks b bound estop drive → StaysOff b bound later earlier → Clean estop bound.estop.link (journal b (later ++ earlier))
    → Quiet side.Slave bound.drive.bit drive bound.drive.link (journal_ticks (journal b earlier) + 2 * estop.master.watchdog - 2) (journal b (later ++ earlier))
kept_off b bound estop drive [] earlier links q c = let some : 0 < estop.master.watchdog = estop.master.some_watchdog in λ most was. omega arith
kept_off b bound estop drive (act ∷ later) earlier links q c =
    let done : List Act = later ++ earlier in
    elim (cases_lt (journal_ticks (journal b (act ∷ done)) + 1) (journal_ticks (journal b earlier) + 2 * estop.master.watchdog)) [
      | inl less ↦ λ most was. omega arith
      | inr more ↦
          quiet_act side.Slave bound.drive.bit drive bound.drive.link _ b act done
          (offered_zero b bound.drive (act ∷ done) drive links.drive_is (offer_off b bound estop (act ∷ later) earlier links.estop_is q c more))
          (kept_off b bound estop drive later earlier links q.2 (clean_before estop bound.estop.link (journal b done) (steps_of act (offers b act done)) c))
    ]

-- and its slave has it as 0 in time, also after some steps more of an act, in which nothing is pulled
drive_off : (b : Beginning) (bound : BoundSpec) (estop drive : LinkConf) (later earlier : List Act) (part steps : List JournalStep) → HasLinks b bound estop drive → StaysOff b bound later earlier → pulled_in part ≡ []
    → steps ≡ journal b (later ++ earlier) ++ part → Clean estop bound.estop.link steps → Clean drive bound.drive.link steps → journal_ticks (journal b earlier) + (2 * estop.master.watchdog + 2 * drive.master.watchdog) ≤ journal_ticks steps + 3
    → is_drive_on bound drive steps ≡ false
drive_off b bound estop drive later earlier part steps links q silent e ce cd many =
    let js : List JournalStep = journal b (later ++ earlier) in
    let some : 0 < estop.master.watchdog = estop.master.some_watchdog in
    let kept = kept_off b bound estop drive later earlier links q (clean_before estop bound.estop.link js part (subst (Clean estop bound.estop.link) e ce)) in
    let quiet = quiet_silent side.Slave bound.drive.bit drive bound.drive.link _ part js silent kept in
    off_since side.Slave bound.drive.bit drive bound.drive.link _ steps (subst (Quiet side.Slave bound.drive.bit drive bound.drive.link (journal_ticks (journal b earlier) + 2 * estop.master.watchdog - 2)) (sym e) quiet) cd (omega arith)

-- after each step with as many ticks
pub steps_off : (b : Beginning) (bound : BoundSpec) (estop drive : LinkConf) (later earlier : List Act) (steps rest : List JournalStep) → HasLinks b bound estop drive → StaysOff b bound later earlier
    → journal b (later ++ earlier) ≡ steps ++ rest → Clean estop bound.estop.link steps → Clean drive bound.drive.link steps
    → journal_ticks (journal b earlier) + (2 * estop.master.watchdog + 2 * drive.master.watchdog) ≤ journal_ticks steps + 3 → is_drive_on bound drive steps ≡ false
steps_off b bound estop drive later earlier steps [] links q e ce cd many = drive_off b bound estop drive later earlier [] steps links q refl (sym (e ∙ append-nil steps) ∙ sym (append-nil _)) ce cd many
steps_off b bound estop drive [] earlier steps (r ∷ rest) links q e ce cd many =
    let one : 0 < estop.master.watchdog = estop.master.some_watchdog in
    let two : 0 < drive.master.watchdog = drive.master.some_watchdog in
    let all : journal_ticks (journal b earlier) ≡ journal_ticks steps + journal_ticks (r ∷ rest) = ap journal_ticks e ∙ sum_by-append (λ s. cond (is_tick_step s) 1 0) steps (r ∷ rest) in
    absurd (omega arith)
steps_off b bound estop drive (act ∷ later) earlier steps (r ∷ rest) links q e ce cd many =
    elim (ends_in (journal b (later ++ earlier)) (steps_of act (offers b act (later ++ earlier))) steps (r ∷ rest) e) [
      | inl before ↦ steps_off b bound estop drive later earlier steps before.0 links q.2 before.1 ce cd many
      | inr within ↦ drive_off b bound estop drive later earlier within.0 steps links q.2 (part_silent b act (later ++ earlier) within.0 rest r within.2) within.1 ce cd many
    ]

-- a pair in the first steps of a journal, without another entry in these
pub clean_at : (links : List LinkConf) (all : List JournalStep) (link : LinkConf) (k : ℕ) (steps rest : List JournalStep) → AreWorlds links all → link_at links k ≡ Some link → all ≡ steps ++ rest → NoOther (pair link k steps)
    → Clean link k steps
clean_at links all link k steps rest are is e none =
    let w = world_at links all k link are is in
    record { lengths = w.lengths; world = pair_back (IsWorld link.master link.slave) (λ x w all. all.1) link k steps rest (subst (λ (js : List JournalStep). IsWorld link.master link.slave (pair link k js)) e w.world); none = none }

-- the journal of the first acts begins that of all
pub first_acts : (b : Beginning) (more done : List Act) → (rest : List JournalStep) × (journal b (more ++ done) ≡ journal b done ++ rest)
first_acts b [] done = ([], sym (append-nil (journal b done)))
first_acts b (act ∷ more) done =
    let before = first_acts b more done in
    let steps : List JournalStep = steps_of act (offers b act (more ++ done)) in
    (before.0 ++ steps, ap (λ (z : List JournalStep). z ++ steps) before.1 ∙ append_assoc (journal b done) before.0 steps)

pub worlds_react : (b : Beginning) (done : List Act) → AreWorlds b.links (journal b done) → Reacts b done
worlds_react b done are = λ bound estop drive more later earlier steps rest links e q split clean many.
    let after = first_acts b more (later ++ earlier) in
    let whole : journal b done ≡ steps ++ (rest ++ after.0) =
    ap (journal b) e ∙ after.1 ∙ ap (λ (z : List JournalStep). z ++ after.0) split ∙ append_assoc steps rest after.0 in
    steps_off b bound estop drive later earlier steps rest links q split
    (clean_at b.links (journal b done) estop bound.estop.link steps (rest ++ after.0) are links.estop_is whole clean.estop_pair)
    (clean_at b.links (journal b done) drive bound.drive.link steps (rest ++ after.0) are links.drive_is whole clean.drive_pair) many
