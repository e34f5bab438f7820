-- A tick is late for a bound only where a pair has another entry: from the first of the still moments that reach it on
-- the bound is quiet. No act of a tick but the line of the script changes what a slave offers, or which application
-- runs, and each cycle keeps off what the application guards. Acts and what is heard are listed newest first, steps
-- oldest first.
use Rattle.plant_model.proofs.Common.{Act, AllSound, Beginning, Bit, BoundSpec, Event, Happen, HasLinks, JournalStep, LinkConf, Offered, Parcel, PullFrom, Said, StaysOff, Unset, append-nil, first_of_both, is_drive_on, is_still, is_tick_step, journal, reaction_limit, line_step, link_at, masters, next_offered, of_end, offer_step, offers, offers_bit, option_map_or, pair, steps_of, journal_ticks}
use Rattle.std.proofs.Common.{◌≡◌, ◌≤◌, ℕ, suc, ◌+◌, ◌-◌, Bool, true, false, cond, ◌||◌, List, [], ◌∷◌, ◌++◌, Option, None, refl, sym, ap, ap₂, ◌∙◌, arith, rules, ◌&&◌, not, All, Some}
use Rattle.std.proofs.lemmas.Bool.{and_parts}
use Rattle.reaction_bound.specs.Reaction as reaction
use Rattle.plant_model.specs.BoundLines.{limit_by, limit_of, is_driven, is_ticking, heard, heard_before}
use Rattle.plant_model.proofs.Reacting.{Clean, clean_at, clean_before, steps_off}
use Rattle.plant_model.proofs.Since.{act_ticks, is_tick_act}
use Rattle.plant_model.proofs.FairPlant.{AreWorlds}
use Rattle.plant_model.specs.Broken.{BrokenByOther}
use Rattle.std.proofs.lemmas.List.Elements.{All-cons, All-nil, All-push}
use Rattle.fsoe_base.specs.declared.command.End.TheVariants as side
use Rattle.plant_model.specs.declared.event.PlantEvent.TheVariants as event
use Rattle.plant_model.specs.declared.journal.JournalStep.TheVariants as step
use Rattle.plant_model.proofs.Growing.{Keeps, steps_keep}
use Rattle.plant_model.proofs.Lines.{each_listed}

-- what the slave of connection k offers by a journal
abbrev offered_by : LinkConf → ℕ → List JournalStep → Offered
offered_by link k js = next_offered (of_end side.Slave (pair link k js))

-- an offer at its master leaves it, and so does a frame that comes
abbrev Leaves : LinkConf → ℕ → JournalStep → Type 0
Leaves link k s = Keeps (λ w. next_offered (of_end side.Slave w)) link k s

offer_leaves : (link : LinkConf) (k : ℕ) (x : ℕ × List ℕ) → Leaves link k (offer_step x)
offer_leaves link k x w = grind arith

-- a tick, and a pull, of a tick
data IsOfTick : Act → Type 0 where
  Ticks : IsOfTick (Happen (Event event.Tick))
  Pulls : (gift : Option Parcel) → IsOfTick (PullFrom gift)

act_leaves : (link : LinkConf) (k : ℕ) (b : Beginning) (act : Act) (done : List Act) → IsOfTick act → All (Leaves link k) (steps_of act (offers b act done))
act_leaves link k b _ done Ticks = All-cons (Leaves link k) (step.Script event.Tick) _ (λ w. refl) (each_listed (Leaves link k) (offer_leaves link k) _)
act_leaves link k b _ done (Pulls None) = All-nil (Leaves link k)
act_leaves link k b _ done (Pulls (Some parcel)) = All-push (Leaves link k) _ (step.Pulled parcel) (each_listed (Leaves link k) (offer_leaves link k) _) (λ w. grind arith)

act_offers : (link : LinkConf) (k : ℕ) (b : Beginning) (act : Act) (done : List Act) → IsOfTick act → offered_by link k (journal b (act ∷ done)) ≡ offered_by link k (journal b done)
act_offers link k b act done h = steps_keep (λ w. next_offered (of_end side.Slave w)) link k (journal b done) (steps_of act (offers b act done)) (act_leaves link k b act done h)

off_if : (o : Option LinkConf) (k bit : ℕ) (b : Beginning) (act : Act) (done : List Act) → IsOfTick act
    → offers_bit bit (option_map_or (λ link. offered_by link k (journal b (act ∷ done))) o Unset) ≡ offers_bit bit (option_map_or (λ link. offered_by link k (journal b done)) o Unset)
off_if o k bit b act done h = search (rules, act_offers)

-- so a bound stays still through a tick
stays_still : (b : Beginning) (bound : BoundSpec) (act : Act) (done : List Act) → IsOfTick act → is_still b bound (act ∷ done) ≡ is_still b bound done
stays_still b bound act done h =
    let same : (masters b (act ∷ done)).app.guards ≡ (masters b done).app.guards = grind arith in
    ap₂ (λ (x y : Bool). not x && y) (off_if (link_at b.links bound.estop.link) bound.estop.link bound.estop.bit b act done h)
    (ap (λ (guards : Bit → Bit → Bool). guards bound.drive bound.estop) same)

-- a line that is a tick
of_tick : (said : Said) → is_tick_step (line_step said) ≡ true → IsOfTick (Happen said)
of_tick (Event event.Tick) h = Ticks
of_tick _ h = absurd (cc h)

-- a bound is still and quiet since some of these acts, after which at least so many ticks came
data QuietFor (b : Beginning) (bound : BoundSpec) : List Act → ℕ → Type 0 where
  Since : (later earlier : List Act) (n : ℕ) → journal_ticks (journal b earlier) + n ≤ journal_ticks (journal b (later ++ earlier)) → is_still b bound (later ++ earlier) ≡ true → StaysOff b bound later earlier
      → QuietFor b bound (later ++ earlier) n

fewer : (b : Beginning) (bound : BoundSpec) (done : List Act) (n m : ℕ) → m ≤ n → QuietFor b bound done n → QuietFor b bound done m
fewer b bound _ _ m few (Since later earlier n long still quiet) = Since later earlier m (omega arith) still quiet

-- through an act after which it is still
quiet_act : (b : Beginning) (bound : BoundSpec) (act : Act) (done : List Act) (n : ℕ) → AllSound b (act ∷ done) → (is_still b bound done ≡ true → is_still b bound (act ∷ done) ≡ true)
    → QuietFor b bound done n → QuietFor b bound (act ∷ done) (n + cond (is_tick_act act) 1 0)
quiet_act b bound act _ _ s stays (Since later earlier n long still quiet) =
    let one = act_ticks b act (later ++ earlier) in
    let on = stays still in
    Since (act ∷ later) earlier _ (omega arith) on (search (rules, and_parts))

-- so its drive is off in time
quiet_drive : (b : Beginning) (bound : BoundSpec) (estop drive : LinkConf) (done : List Act) (n : ℕ) → HasLinks b bound estop drive → Clean estop bound.estop.link (journal b done) → Clean drive bound.drive.link (journal b done)
    → reaction_limit estop drive ≤ n + 3 → QuietFor b bound done n → is_drive_on bound drive (journal b done) ≡ false
quiet_drive b bound estop drive _ _ links ce cd long (Since later earlier n count still quiet) =
    steps_off b bound estop drive later earlier (journal b (later ++ earlier)) [] links quiet (sym (append-nil _)) ce cd (omega arith)

-- from here on or from earlier on
here : (b : Beginning) (bound : BoundSpec) (done : List Act) (n : ℕ) → n ≤ 0 → is_still b bound done ≡ true → QuietFor b bound done n
here b bound done n few still = Since [] done n (omega arith) still (and_parts _ _ still).0

quiet_now : (b : Beginning) (bound : BoundSpec) (done : List Act) (n : ℕ) (still : Bool) (heard : List reaction.Heard) → is_still b bound done ≡ still
    → (is_still b bound done ≡ true → reaction.quiet_for n heard ≡ true → QuietFor b bound done n) → reaction.quiet_for n (reaction.Quiet still ∷ heard) ≡ true → QuietFor b bound done n
quiet_now b bound done n still heard h k l = search (rules, here)

not_late : (limit : ℕ) (on : Bool) (heard : List reaction.Heard) → (reaction.quiet_for (limit - 1) heard ≡ true → on ≡ false) → reaction.is_late_tick limit (reaction.Tick on ∷ heard) ≡ false
not_late limit on heard h = grind arith

-- before its newest line a bound was quiet for as long as was heard, and not broken: it is quiet after a tick, and
-- where it is still after another line
record KeptBefore (b : Beginning) (bound : BoundSpec) (done : List Act) (tick : Bool) (heard : List reaction.Heard) : Type 0 where
  quiet : (n : ℕ) → reaction.quiet_for n heard ≡ true → (tick || is_still b bound done) ≡ true → QuietFor b bound done (n + cond tick 1 0)
  none : reaction.broken_of (limit_of b.links bound) heard ≡ None

kept_line : (b : Beginning) (bound : BoundSpec) (estop drive : LinkConf) (done : List Act) (tick : Bool) (before : List reaction.Heard) → HasLinks b bound estop drive
    → Clean estop bound.estop.link (journal b done) → Clean drive bound.drive.link (journal b done) → KeptBefore b bound done tick before
    → ((n : ℕ) → reaction.quiet_for n (heard b bound tick done before) ≡ true → QuietFor b bound done n) × (reaction.broken_of (limit_of b.links bound) (heard b bound tick done before) ≡ None)
kept_line b bound estop drive done true before links ce cd k =
    let driven : is_driven b bound done ≡ is_drive_on bound drive (journal b done) = ap (λ (o : Option LinkConf). option_map_or (λ z. is_drive_on bound z (journal b done)) o false) links.drive_is in
    let limit_is : limit_of b.links bound ≡ reaction_limit estop drive = ap₂ (λ (one two : Option LinkConf). limit_by one two) links.estop_is links.drive_is in
    let count : ℕ = suc (reaction.heard_ticks before) in (
      λ n. quiet_now b bound done n (is_still b bound done) (reaction.Tick (is_driven b bound done) ∷ before) refl (λ still quiet. fewer b bound done (n - 1 + 1) n (omega arith) (k.quiet (n - 1) quiet refl)),
      ap₂ (λ (before : Option ℕ) (late : Bool). first_of_both (first_of_both before late count) false count) k.none
          (not_late (limit_of b.links bound) (is_driven b bound done) before
          (λ quiet. driven ∙ quiet_drive b bound estop drive done _ links ce cd (omega (arith, limit_is)) (k.quiet (limit_of b.links bound - 1) quiet refl))),
    )
kept_line b bound estop drive done false before links ce cd k = (
  λ n. quiet_now b bound done n (is_still b bound done) before refl (λ still quiet. fewer b bound done (n + 0) n (omega arith) (k.quiet n quiet still)),
  ap (λ (o : Option ℕ). first_of_both o false (reaction.heard_ticks before)) k.none,
)

-- where a bound was still before a tick it is so after it
still_on : (b : Beginning) (bound : BoundSpec) (said : Said) (done : List Act) (tick : Bool) → is_tick_step (line_step said) ≡ tick → (tick || is_still b bound (Happen said ∷ done)) ≡ true → is_still b bound done ≡ true
    → is_still b bound (Happen said ∷ done) ≡ true
still_on b bound said done tick h k l = search (rules, stays_still, of_tick)

kept_acts : (b : Beginning) (bound : BoundSpec) (estop drive : LinkConf) (done : List Act) → HasLinks b bound estop drive → AllSound b done
    → Clean estop bound.estop.link (journal b done) → Clean drive bound.drive.link (journal b done) → KeptBefore b bound done (is_ticking done) (heard_before b bound done)
kept_acts b bound estop drive (Happen said ∷ done) links s ce cd =
    let more : List JournalStep = steps_of (Happen said) (offers b (Happen said) done) in
    let e = clean_before estop bound.estop.link (journal b done) more ce in
    let d = clean_before drive bound.drive.link (journal b done) more cd in
    let k = kept_line b bound estop drive done (is_ticking done) (heard_before b bound done) links e d (kept_acts b bound estop drive done links s.1 e d) in
    search (rules, quiet_act, still_on)
kept_acts b bound estop drive (PullFrom gift ∷ done) links s ce cd =
    let act : Act = PullFrom gift in
    let more : List JournalStep = steps_of act (offers b act done) in
    let k = kept_acts b bound estop drive done links s.1 (clean_before estop bound.estop.link (journal b done) more ce) (clean_before drive bound.drive.link (journal b done) more cd) in
    let same = stays_still b bound act done (Pulls gift) in
    record {
      quiet = λ n quiet on. fewer b bound (act ∷ done) _ _ (omega arith) (quiet_act b bound act done _ s (λ still. same ∙ still) (k.quiet n quiet (ap (λ (x : Bool). is_ticking done || x) (sym same) ∙ on)));
      none = k.none;
    }
kept_acts b bound estop drive _ links s ce cd = record { quiet = λ n none on. absurd (cc none); none = refl }

pub worlds_broken : (b : Beginning) (done : List Act) → AreWorlds b.links (journal b done) → AllSound b done → BrokenByOther b done
worlds_broken b done are s = λ bound estop drive links clean.
    let js : List JournalStep = journal b done in
    let whole : js ≡ js ++ [] = sym (append-nil js) in
    let e = clean_at b.links js estop bound.estop.link js [] are links.estop_is whole clean.estop_pair in
    let d = clean_at b.links js drive bound.drive.link js [] are links.drive_is whole clean.drive_pair in
    (kept_line b bound estop drive done (is_ticking done) (heard_before b bound done) links e d (kept_acts b bound estop drive done links s e d)).1
