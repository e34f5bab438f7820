-- Which acts run a cycle, and that its answer is sound.
use Rattle.plant_model.proofs.Common.{Act, AllSound, Answer, Beginning, Call, Cycles, Deliver, End, Entry, Event, Happen, IfSome, IsSound, JournalStep, LinkConf, Parcel, PullFrom, call_of, calls, numbered_connection, cycle_in, delivery_call, is_heard, is_some, journal, link_at, master_hears, masters, meant, next_of, option_and_then, option_to_list, pair, place_of, settings, tells_hearing, world_after}
use Rattle.std.proofs.Common.{◌≡◌, ℕ, zero, suc, ◌==◌, Bool, true, false, List, [], ◌∷◌, ◌++◌, slice_get, Option, Some, None, if◌then◌else◌, refl, sym, ap, ◌∙◌, append_assoc, arith}
use Rattle.fsoe_base.specs.declared.command.End.TheVariants as side
use Rattle.param_load.specs.declared.entry.Move.TheVariants as move
use Rattle.schedule_file.specs.declared.event.Event.TheVariants as at
use Rattle.master_core.specs.Due.{tells_due}
use Rattle.multi_master.specs.Standing as multi
use Rattle.plant_model.specs.declared.event.PlantEvent.TheVariants as event
use Rattle.plant_model.specs.declared.journal.JournalStep.TheVariants as step
use Rattle.plant_model.proofs.Growing.{Keeps, pair_own, steps_keep}
use Rattle.plant_model.proofs.Lines.{each_listed}
use Rattle.plant_model.proofs.Masters.{mastered, offers_by}

-- an offer changes nothing of what is done with a frame
put_keeps : (link : LinkConf) (bytes load : List ℕ) (w : List Entry) (mine : Bool) → (next_of side.Master (move.Deliver bytes) link (world_after link.master link.slave (if mine then at.Put side.Master load ∷ [] else []) w)).did ≡ (next_of side.Master (move.Deliver bytes) link w).did
put_keeps link bytes load w true = refl
put_keeps link bytes load w false = refl

some_if : (b : Bool) (a : Answer) → is_some (if b then Some a else None) ≡ b
some_if b a = grind arith

-- a frame for the master of a connection that exists
heard : (b : Beginning) (done : List Act) (place : ℕ) (frame : List ℕ) (link : LinkConf) → slice_get b.links place ≡ Some link
    → is_some (cycle_in (Deliver (suc place) frame) (masters b done))
    ≡ tells_hearing (pair link (suc place) (journal b done ++ (offers_by b (Some (Deliver (suc place) frame)) done ++ step.Pulled (record { to = place_of (suc place) side.Master; frame = frame }) ∷ [])))
heard b done place frame link is =
    let n : ℕ = suc place in
    let call : Call = Deliver n frame in
    let parcel : Parcel = record { to = place_of n side.Master; frame = frame } in
    let steps : List JournalStep = journal b done in
    let offers : List JournalStep = offers_by b (Some call) done in
    let own = mastered b done place link is in
    some_if (is_heard frame (numbered_connection n (masters b done))) _
    ∙ ap (is_heard frame) own
    ∙ ap tells_due (sym (steps_keep (λ w. (next_of side.Master (move.Deliver frame) link w).did) link n steps offers (each_listed (Keeps (λ w. (next_of side.Master (move.Deliver frame) link w).did) link n) (λ x w. put_keeps link frame x.1 w (x.0 == n)) _)))
    ∙ sym (ap tells_hearing (ap (pair link n) (sym (append_assoc steps offers (step.Pulled parcel ∷ []))) ∙ pair_own link (steps ++ offers) (step.Pulled parcel) n side.Master (move.Deliver frame) (record { part = λ j. refl })))

parcel_cycles : (b : Beginning) (done : List Act) (n : ℕ) (end : End) (frame : List ℕ) (o : Option LinkConf) → link_at b.links n ≡ o
    → is_some (option_and_then (λ call. cycle_in call (masters b done)) (delivery_call o end n frame))
    ≡ master_hears o end n (journal b done ++ (offers_by b (delivery_call o end n frame) done ++ step.Pulled (record { to = place_of n end; frame = frame }) ∷ []))
parcel_cycles b done n end frame None e = refl
parcel_cycles b done n side.Slave frame (Some link) e = refl
parcel_cycles b done zero side.Master frame (Some link) e = absurd (cc e)
parcel_cycles b done (suc place) side.Master frame (Some link) e = heard b done place frame link e

pub cycles : (b : Beginning) (act : Act) (done : List Act) → Cycles b act done
cycles b (Happen (Event (event.Nonce link side.Master id))) done = refl
cycles b (PullFrom (Some parcel)) done = parcel_cycles b done parcel.to.link parcel.to.end parcel.frame (link_at b.links parcel.to.link) refl
cycles b _ done = refl

-- calls with sound answers were made by acts with sound answers
sound-act : (b : Beginning) (acts : List Act) (o : Option Call) → multi.AllSound (settings b) b.app (option_to_list o ++ calls b acts)
    → IfSome (option_and_then (λ call. cycle_in call (masters b acts)) o) (IsSound (meant (settings b) b.app (option_to_list o ++ calls b acts))) × multi.AllSound (settings b) b.app (calls b acts)
sound-act b acts o h = grind arith

pub sound_acts : (b : Beginning) (acts : List Act) → multi.AllSound (settings b) b.app (calls b acts) → AllSound b acts
sound_acts b [] h = tt
sound_acts b (act ∷ acts) h =
    let one = sound-act b acts (call_of b act) h in
    (one.0, sound_acts b acts one.1)
