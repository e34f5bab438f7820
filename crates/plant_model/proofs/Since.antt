-- How the entries of a pair grow with the acts of a plant: the ticks that came, and since when the peer of an end sent
-- no data that offer a bit as 1. Data frames are sent as answers alone, and a frame that comes changes no offer. Acts
-- and entries are listed newest first, steps oldest first.
use Rattle.plant_model.proofs.Common.{Act, Beginning, Deed, End, Entry, Happen, IsTrue, JournalStep, LinkConf, Move, PullFrom, Setup, WasOffered, append-nil, common_steps, cond, flat_map-append, is_data_frame, is_tick_step, journal, line_step, next_of, next_offered, of_end, offers, offers_bit, own_part, pair, peer, pulled_in, same_end, step, steps_of, sum_by-append, ticked, journal_ticks, ticks_of, world_after}
use Rattle.std.proofs.Common.{◌≡◌, ◌≤◌, ℕ, suc, ◌+◌, ◌==◌, Bool, true, false, List, [], ◌∷◌, ◌++◌, Some, if◌then◌else◌, refl, sym, ap, ap₂, subst, length, ◌⊎◌, inl, inr, ◌∙◌, append_assoc, length-append, arith}
use Rattle.std.proofs.lemmas.List.{nil_from_length}
use Rattle.fsoe_base.specs.declared.command.End.TheVariants as side
use Rattle.param_load.specs.declared.entry.Move.TheVariants as move
use Rattle.plant_model.specs.declared.event.PlantEvent.TheVariants as event
use Rattle.plant_model.specs.declared.journal.JournalStep.TheVariants as step
use Rattle.plant_model.specs.JournalLaws.{parcel_of}
use Rattle.plant_model.proofs.Growing.{event_for, one_world, pair_step}
use Rattle.plant_model.proofs.Lines.{act_gives, no_parcels, offers_alone}

-- no frame comes in an event
abbrev pub BringsNone : Move → Type 0
BringsNone (move.Deliver bytes) = ⊥
BringsNone _ = Unit {0}

-- where no frame comes no data frame is sent
no_data : (s : Setup) (e : List Deed) (what : Move) → BringsNone what → is_data_frame (step s e what).sent ≡ false
no_data s e what h = grind arith

-- an end offers a bit as 0
abbrev pub OffersZero : End → ℕ → List Entry → Type 0
OffersZero which bit w = offers_bit bit (next_offered (of_end which w)) ≡ false

-- a frame that comes changes no offer
delivered_zero : (which : End) (bit : ℕ) (end : End) (bytes : List ℕ) (link : LinkConf) (w : List Entry) → OffersZero which bit (next_of end (move.Deliver bytes) link w ∷ w) → OffersZero which bit w
delivered_zero which bit end bytes link w h = grind arith

-- after each data frame of its peer that offers a bit as 1, an end ticked at least from one number to the other
abbrev pub ZeroSince : End → ℕ → ℕ → ℕ → List Entry → Type 0
ZeroSince which bit from now w = (most : ℕ) → WasOffered which bit most w → now ≤ from + most

ticked_most : (m : Move) (mine : Bool) (from a b : ℕ) → a ≤ from + b → (if mine then ticked m a else a) ≤ from + (if mine then ticked m b else b)
ticked_most m mine from a b h = grind arith

zero_by : (which : End) (bit from now : ℕ) (x y : Entry) (w later before : List Entry) → (x.end ≡ peer which → IsTrue (is_data_frame x.sent) → OffersZero (peer which) bit w) → ZeroSince which bit from now w
    → x ∷ w ≡ later ++ (y ∷ before) → y.end ≡ peer which → IsTrue (is_data_frame y.sent) → IsTrue (offers_bit bit (next_offered (of_end (peer which) before)))
    → (if same_end which x.end then ticked x.what now else now) ≤ from + ticks_of which later
zero_by which bit from now x y w [] before zero h e is sends on =
    let same : x ≡ y = cc in
    let rest : w ≡ before = cc in
    let off = zero (cc (same, is)) (cc (same, sends)) in
    absurd (cc (off, on, rest))
zero_by which bit from now x y w (z ∷ later) before zero h e is sends on =
    let same : x ≡ z = cc in
    let rest : w ≡ later ++ (y ∷ before) = cc in
    let least = h (ticks_of which later) (record { later = later; sending = y; before = before; parts_are = rest; by_peer = is; sent_data = sends; offered = on; lately = omega arith }) in
    subst (λ (v : Entry). (if same_end which x.end then ticked x.what now else now) ≤ from + ticks_of which (v ∷ later)) same (ticked_most x.what (same_end which x.end) from now (ticks_of which later) least)

-- so it is after an entry more, where the peer offered it as 0 if it sent data in that
zero_more : (which : End) (bit from now later : ℕ) (x : Entry) (w : List Entry) → (x.end ≡ peer which → IsTrue (is_data_frame x.sent) → OffersZero (peer which) bit w)
    → later ≤ (if same_end which x.end then ticked x.what now else now) → ZeroSince which bit from now w → ZeroSince which bit from later (x ∷ w)
zero_more which bit from now later x w zero few h = λ most was.
    let least = zero_by which bit from now x was.sending w was.later was.before zero h was.parts_are was.by_peer was.sent_data was.offered in
    let lately = was.lately in
    omega arith

-- so it is where no frame comes
zero_silent : (which : End) (bit from now later : ℕ) (end : End) (what : Move) (link : LinkConf) (w : List Entry) → BringsNone what → later ≤ (if same_end which (next_of end what link w).end then ticked what now else now)
    → ZeroSince which bit from now w → ZeroSince which bit from later (next_of end what link w ∷ w)
zero_silent which bit from now later end what link w none few h = zero_more which bit from now later (next_of end what link w) w (λ is sends. absurd (cc (sends, no_data _ _ what none))) few h

ticked_least : (what : Move) (mine : Bool) (n : ℕ) → n ≤ (if mine then ticked what n else n)
ticked_least what mine n = grind arith

-- one event of the script at one end, which may be of this connection
zero_set : (which : End) (bit from now later : ℕ) (link : LinkConf) (end : End) (what : Move) (w : List Entry) (mine : Bool) → later ≤ now → BringsNone what → ZeroSince which bit from now w
    → ZeroSince which bit from later (world_after link.master link.slave (if mine then event_for end what ∷ [] else []) w)
zero_set which bit from now later link end what w true few none h =
    subst (ZeroSince which bit from later) (sym (one_world link end what w true))
    (zero_silent which bit from now later end what link w none (omega (arith, ticked_least what (same_end which (next_of end what link w).end) now)) h)
zero_set which bit from now later link end what w false few none h = λ most was. omega (arith, h most was)

-- a frame that comes, where the peer offers the bit as 0 after it
zero_came : (which : End) (bit from now later : ℕ) (link : LinkConf) (end : End) (bytes : List ℕ) (w : List Entry) (mine : Bool) → later ≤ now
    → OffersZero (peer which) bit (world_after link.master link.slave (if mine then event_for end (move.Deliver bytes) ∷ [] else []) w) → ZeroSince which bit from now w
    → ZeroSince which bit from later (world_after link.master link.slave (if mine then event_for end (move.Deliver bytes) ∷ [] else []) w)
zero_came which bit from now later link end bytes w true few zero h =
    let x : Entry = next_of end (move.Deliver bytes) link w in
    zero_more which bit from now later x w (λ is sends. delivered_zero (peer which) bit end bytes link w zero) (omega (arith, ticked_least (move.Deliver bytes) (same_end which x.end) now)) h
zero_came which bit from now later link end bytes w false few zero h = λ most was. omega (arith, h most was)

both_tick : (which : End) (n : ℕ) → n + 1 ≤ (if same_end which side.Master then ticked move.Tick (if same_end which side.Slave then ticked move.Tick n else n) else (if same_end which side.Slave then ticked move.Tick n else n))
both_tick which n = grind arith

-- so it goes on in a step in which no parcel is pulled
zero_step : (which : End) (bit from now later : ℕ) (link : LinkConf) (k : ℕ) (s : JournalStep) (w : List Entry) → later ≤ now + cond (is_tick_step s) 1 0 → parcel_of s ≡ [] → ZeroSince which bit from now w
    → ZeroSince which bit from later (world_after link.master link.slave (own_part k s) w)
zero_step which bit from now later link k (step.Script event.Tick) w few none h =
    let x : Entry = next_of side.Slave move.Tick link w in
    let mid : ℕ = if same_end which side.Slave then suc now else now in
    zero_silent which bit from mid later side.Master move.Tick link (x ∷ w) tt (omega (arith, both_tick which now)) (zero_silent which bit from now mid side.Slave move.Tick link w tt (omega arith) h)
zero_step which bit from now later link k (step.Script (event.Put n load)) w few none h = zero_set which bit from now later link side.Slave (move.Put load) w (n == k) (omega arith) tt h
zero_step which bit from now later link k (step.Script (event.Hold n failsafe)) w few none h = zero_set which bit from now later link side.Slave (move.Hold failsafe) w (n == k) (omega arith) tt h
zero_step which bit from now later link k (step.Script (event.Local n)) w few none h = zero_set which bit from now later link side.Slave move.Local w (n == k) (omega arith) tt h
zero_step which bit from now later link k (step.Script (event.Nonce n end id)) w few none h = zero_set which bit from now later link end (move.Nonce id) w (n == k) (omega arith) tt h
zero_step which bit from now later link k (step.Offer n load) w few none h = zero_set which bit from now later link side.Master (move.Put load) w (n == k) (omega arith) tt h
zero_step which bit from now later link k (step.Pulled parcel) w few none h = absurd (cc none)
zero_step which bit from now later link k s w few none h = λ most was. omega (arith, h most was)

-- since tick `from` of a journal the peer of an end sent no data that offer a bit as 1
abbrev pub Quiet : End → ℕ → LinkConf → ℕ → ℕ → List JournalStep → Type 0
Quiet which bit link k from js = ZeroSince which bit from (journal_ticks js) (pair link k js)

ticks_more : (js : List JournalStep) (s : JournalStep) → journal_ticks (js ++ s ∷ []) ≡ journal_ticks js + cond (is_tick_step s) 1 0
ticks_more js s = omega (arith, sum_by-append (λ z. cond (is_tick_step z) 1 0) js (s ∷ []))

-- what is no part of nothing
no_parts : {A : Type 0} (xs ys : List A) → xs ++ ys ≡ [] → (xs ≡ []) × (ys ≡ [])
no_parts [] ys h = (refl, h)
no_parts (x ∷ xs) ys h = absurd (cc h)

pub quiet_silent : (which : End) (bit : ℕ) (link : LinkConf) (k from : ℕ) (steps js : List JournalStep) → pulled_in steps ≡ [] → Quiet which bit link k from js → Quiet which bit link k from (js ++ steps)
quiet_silent which bit link k from [] js none h = subst (Quiet which bit link k from) (sym (append-nil js)) h
quiet_silent which bit link k from (s ∷ steps) js none h =
    let first = no_parts (parcel_of s) (pulled_in steps) none in
    let now : ℕ = journal_ticks (js ++ s ∷ []) in
    let one = zero_step which bit from (journal_ticks js) now link k s (pair link k js) (omega (arith, ticks_more js s)) first.0 h in
    subst (Quiet which bit link k from) (append_assoc js (s ∷ []) steps)
    (quiet_silent which bit link k from steps (js ++ s ∷ []) first.1 (subst (ZeroSince which bit from now) (sym (pair_step link k js s)) one))

-- by an act after which the peer offers the bit as 0
pub quiet_act : (which : End) (bit : ℕ) (link : LinkConf) (k from : ℕ) (b : Beginning) (act : Act) (done : List Act) → OffersZero (peer which) bit (pair link k (journal b (act ∷ done)))
    → Quiet which bit link k from (journal b done) → Quiet which bit link k from (journal b (act ∷ done))
quiet_act which bit link k from b (PullFrom (Some parcel)) done zero h =
    let os : List JournalStep = offers b (PullFrom (Some parcel)) done in
    let js : List JournalStep = journal b done ++ os in
    let s : JournalStep = step.Pulled parcel in
    let same : js ++ s ∷ [] ≡ journal b done ++ (os ++ s ∷ []) = append_assoc (journal b done) os (s ∷ []) in
    let before = quiet_silent which bit link k from os (journal b done) (no_parcels b (PullFrom (Some parcel)) done) h in
    let after = subst (OffersZero (peer which) bit) (ap (pair link k) (sym same) ∙ pair_step link k js s) zero in
    let came = zero_came which bit from (journal_ticks js) (journal_ticks (js ++ s ∷ [])) link parcel.to.end parcel.frame (pair link k js) (parcel.to.link == k) (omega (arith, ticks_more js s)) after before in
    subst (Quiet which bit link k from) same (subst (ZeroSince which bit from (journal_ticks (js ++ s ∷ []))) (sym (pair_step link k js s)) came)
quiet_act which bit link k from b act done zero h = quiet_silent which bit link k from (steps_of act (offers b act done)) (journal b done) (act_gives act (offers b act done) (no_parcels b act done)) h

-- the first of joined steps end before the second part, or within it
pub ends_in : (xs ys part rest : List JournalStep) → xs ++ ys ≡ part ++ rest → ((us : List JournalStep) × (xs ≡ part ++ us)) ⊎ ((us : List JournalStep) × (part ≡ xs ++ us) × (ys ≡ us ++ rest))
ends_in [] ys part rest e = inr (part, refl, e)
ends_in (x ∷ xs) ys [] rest e = inl (x ∷ xs, refl)
ends_in (x ∷ xs) ys (y ∷ part) rest e =
    let same : x ≡ y = cc in
    let tails : xs ++ ys ≡ part ++ rest = cc in
    elim (ends_in xs ys part rest tails) [
      | inl before ↦ inl (before.0, ap₂ (λ (z : JournalStep) (zs : List JournalStep). z ∷ zs) same before.1)
      | inr within ↦ inr (within.0, ap₂ (λ (z : JournalStep) (zs : List JournalStep). z ∷ zs) (sym same) within.1, within.2)
    ]

-- the first steps of an act pull no parcel, unless they are all
first_silent : (all part rest : List JournalStep) → pulled_in all ≡ [] → all ≡ part ++ rest → pulled_in part ≡ []
first_silent all part rest h e = (no_parts (pulled_in part) (pulled_in rest) (sym (flat_map-append parcel_of part rest) ∙ ap pulled_in (sym e) ∙ h)).0

pub part_silent : (b : Beginning) (act : Act) (done : List Act) (part rest : List JournalStep) (r : JournalStep) → steps_of act (offers b act done) ≡ part ++ r ∷ rest → pulled_in part ≡ []
part_silent b (PullFrom (Some parcel)) done part rest r e =
    let os : List JournalStep = offers b (PullFrom (Some parcel)) done in
    elim (ends_in os (step.Pulled parcel ∷ []) part (r ∷ rest) e) [
      | inl before ↦ first_silent os part before.0 (no_parcels b (PullFrom (Some parcel)) done) before.1
      | inr within ↦
          let none : within.0 ≡ [] = nil_from_length within.0 (omega (arith, ap length within.2, length-append within.0 (r ∷ rest))) in
          ap pulled_in (within.1 ∙ ap (λ (us : List JournalStep). os ++ us) none ∙ append-nil os) ∙ no_parcels b (PullFrom (Some parcel)) done
    ]
part_silent b act done part rest r e = first_silent (steps_of act (offers b act done)) part (r ∷ rest) (act_gives act (offers b act done) (no_parcels b act done)) e

-- whether an act is a tick
abbrev pub is_tick_act : Act → Bool
is_tick_act (Happen said) = is_tick_step (line_step said)
is_tick_act _ = false

-- a tick alone counts
pub act_ticks : (b : Beginning) (act : Act) (done : List Act) → journal_ticks (journal b (act ∷ done)) ≡ journal_ticks (journal b done) + cond (is_tick_act act) 1 0
act_ticks b act done = grind (arith, common_steps, offers_alone journal_ticks (λ x steps. refl) b act done)
