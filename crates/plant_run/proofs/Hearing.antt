-- The bounds of a plant that runs are told of each line of its script, and the ages of their connections are told.
use Rattle.plant_run.proofs.Common.{Act, All-map, AreAged, Beginning, BoundSpec, HasRoom, Happen, Hears, HearsOne, IfSome, IsAged, IsSome, JournalStep, LinkConf, PlantLine, PlantStands, PlantView, PullFrom, Quiet, ReactionView, RunStands, RunView, ScriptHeading, ShowsOn, TellsStill, Terms, Tick, ChannelTold, Watched, eq-eqb, fixed_in, heard, heard_before, heard_of, is_driven, is_named, is_tick_step, is_ticking, length-map, length_push, limit_of, line_step, link_at, links_made, said_in, slice_get_read, take_all, view_of, watched_by, watching}
use Rattle.std.proofs.Common.{◌≡◌, ◌≤◌, ◌<◌, ◌+◌, ◌^◌, ◌==◌, ◌||◌, ℕ, zero, suc, Bool, true, false, List, [], ◌∷◌, ◌++◌, All, get_or, length, take, slice_get, slice_index_or, slice_set, Some, if◌then◌else◌, refl, sym, ap, ap₂, ◌∙◌, arith}
use Rattle.std.specs.List.{AllZip}
use Rattle.std.specs.Option.{option_map_or}
use Rattle.std.proofs.lemmas.Bool.{or_left, or_right}
use Rattle.std.proofs.lemmas.List.{take_more_set}
use Rattle.std.proofs.lemmas.List.Elements.{AllZip-push}
use Rattle.std.proofs.lemmas.Option.{slice_get_within}
use Rattle.reaction_bound.specs.Reaction as reaction
use Rattle.multi_master.proofs.Looping.{Untouched, next_taken, untouched_more}
use Rattle.plant_model.specs.Bound.{is_drive_on}
use Rattle.plant_core.specs.Link.{LinkView, fixed_of, new_link}

pub tick_heard : (v : PlantView) (tick : Bool) (old new : Watched) (mid : ReactionView) (on still : Bool) → ShowsOn v old.bound.drive on → Hears old.reaction (Tick on) mid → TellsStill v old.bound still → Hears mid (Quiet still) new.reaction
    → new ≡ record old { reaction = new.reaction } → tick ≡ true → HearsOne v tick old new
tick_heard v tick old new mid on still h k l m e is = record {
  same = e;
  hears = λ b acts before s was.
      let driven : on ≡ is_driven b old.bound acts = h.shows b acts s ∙ ap (λ (j : List JournalStep). option_map_or (λ drive. is_drive_on old.bound drive j) (link_at b.links old.bound.drive.link) false) s.has_done.journal_is in
      let told = m.hears (limit_of b.links old.bound) (Tick on ∷ before) (k.hears (limit_of b.links old.bound) before was) in
      rw is (told ∙ ap₂ (λ (q d : Bool). view_of (limit_of b.links old.bound) (Quiet q ∷ Tick d ∷ before)) (l.tells b acts s) driven);
}

pub other_heard : (v : PlantView) (tick : Bool) (old new : Watched) (still : Bool) → TellsStill v old.bound still → Hears old.reaction (Quiet still) new.reaction → new ≡ record old { reaction = new.reaction } → tick ≡ false → HearsOne v tick old new
other_heard v tick old new still h k e is = record {
  same = e;
  hears = λ b acts before s was. rw is (k.hears (limit_of b.links old.bound) before was ∙ ap (λ (q : Bool). view_of (limit_of b.links old.bound) (Quiet q ∷ before)) (h.tells b acts s));
}

-- the first bounds were told of a line
pub record HeardTo (R : Watched → Watched → Type 0) (i : ℕ) (initial now : List Watched) : Type 0 where
  pub heard : AllZip R (take i initial) (take i now)
  pub rest : Untouched i initial now

pub heard_more : (R : Watched → Watched → Type 0) (i : ℕ) (initial now : List Watched) (old new : Watched) → HeardTo R i initial now → slice_get now i ≡ Some old → R old new → HeardTo R (i + 1) initial (slice_set now i new)
heard_more R i initial now old new inv at hears =
    let before : take (i + 1) initial ≡ take i initial ++ old ∷ [] = next_taken initial i old (sym (inv.rest i (omega arith)) ∙ at) in
    let after : take (i + 1) (slice_set now i new) ≡ take i now ++ new ∷ [] = take_more_set now i new (slice_get_within now i old at) in
    record { heard = rw (before, after) (AllZip-push R (take i initial) (take i now) old new inv.heard hears); rest = untouched_more i initial now (slice_set now i new) new inv.rest refl }

pub heard_all : (R : Watched → Watched → Type 0) (i : ℕ) (initial now : List Watched) → length initial ≤ i → length now ≤ i → HeardTo R i initial now → AllZip R initial now
heard_all R i initial now most few inv = rw (← take_all i initial most, ← take_all i now few) inv.heard

-- what was heard of bounds that had heard this before
pub all_heard : (b : Beginning) (acts : List Act) (v : PlantView) (tick : Bool) (before : BoundSpec → List reaction.Heard) (bounds : List BoundSpec) (new : List Watched) → PlantStands b v acts
    → AllZip (HearsOne v tick) (watched_by b.links before bounds) new → new ≡ watched_by b.links (λ bound. heard b bound tick acts (before bound)) bounds
all_heard b acts v tick before [] [] k h = refl
all_heard b acts v tick before (bound ∷ bounds) (w ∷ new) k h =
    let told = h.0.hears b acts (before bound) k refl in
    ap₂ (λ (x : Watched) (xs : List Watched). x ∷ xs) (h.0.same ∙ ap (λ (r : ReactionView). record { bound = bound; limit = limit_of b.links bound; reaction = r }) told) (all_heard b acts v tick before bounds new k h.1)
all_heard b acts v tick before _ _ k h = absurd h

if_ticks : (tick on : Bool) (before : List reaction.Heard) → reaction.heard_ticks (if tick then reaction.Tick on ∷ before else before) ≤ suc (reaction.heard_ticks before)
if_ticks tick on before = grind arith

-- no more ticks are heard than there are lines
said_ticks : (b : Beginning) (bound : BoundSpec) (acts : List Act) (on : Bool) → reaction.heard_ticks (if is_ticking acts then reaction.Tick on ∷ heard_before b bound acts else heard_before b bound acts) ≤ length (said_in acts)
said_ticks b bound (Happen said ∷ acts) on =
    let rest = said_ticks b bound acts (is_driven b bound acts) in
    let one = if_ticks (is_tick_step (line_step said)) on (heard_of b bound acts) in
    omega (arith, rest, one, length_push (said_in acts) said)
said_ticks b bound (PullFrom gift ∷ acts) on = said_ticks b bound acts on
said_ticks b bound _ on = omega arith

-- a plant that runs can tell its bounds of a line more
pub can_hear : {t : Terms} {before : ChannelTold} {now : RunView} {count : ℕ} {h : ScriptHeading} {log : List PlantLine} {text : List ℕ} → RunStands t before now count h log text → length log + 1 < 2 ^ 64 → All HasRoom now.watched
can_hear {t} k few =
    rw k.watched_are (All-map HasRoom (λ bound. watching t.begins.links bound (heard_of t.begins bound k.acts)) t.bounds
    (λ i d below. let ticks = said_ticks t.begins (get_or t.bounds i d) k.acts (is_driven t.begins (get_or t.bounds i d) k.acts) in omega (arith, ticks, k.whole, few)))

-- bounds to which nothing was said can be told of a line
pub fresh_rooms : (links : List LinkConf) (bounds : List BoundSpec) (made : List Watched) → made ≡ watched_by links (λ bound. []) bounds → All HasRoom made
fresh_rooms links bounds made e = rw e (All-map HasRoom (λ bound. watching links bound []) bounds (λ k d below. omega arith))

-- what is watched at a place is a bound, which names its connections
pub bound_at : (links : List LinkConf) (before : BoundSpec → List reaction.Heard) (bounds : List BoundSpec) (place : ℕ) (w : Watched) → slice_get (watched_by links before bounds) place ≡ Some w
    → (is_named bounds w.bound.estop.link ≡ true) × (is_named bounds w.bound.drive.link ≡ true) × (w ≡ watching links w.bound (before w.bound))
bound_at links before [] place w e = absurd (cc e)
bound_at links before (bound ∷ bounds) zero w e =
    let same : watching links bound (before bound) ≡ w = cc in
    let i : ℕ = bound.estop.link in
    let o : ℕ = bound.drive.link in
    rw (← same) (or_left (i == i || o == i) (is_named bounds i) (or_left (i == i) (o == i) (eq-eqb i i refl)), or_left (i == o || o == o) (is_named bounds o) (or_right (i == o) (o == o) (eq-eqb o o refl)), refl)
bound_at links before (bound ∷ bounds) (suc place) w e =
    let rest = bound_at links before bounds place w e in
    (or_right (bound.estop.link == w.bound.estop.link || bound.drive.link == w.bound.estop.link) _ rest.0, or_right (bound.estop.link == w.bound.drive.link || bound.drive.link == w.bound.drive.link) _ rest.1, rest.2)

-- the ages of a connection are told that a bound names
aged_one : (aged : Bool) (link : LinkConf) (v : LinkView) → fixed_of v ≡ fixed_of (new_link aged link) → aged ≡ true → IsSome v.ages
aged_one aged link v e is = grind arith

aged_from : (k place n : ℕ) (bounds : List BoundSpec) (links : List LinkConf) (vs : List LinkView) → n ≡ k + place → fixed_in vs ≡ fixed_in (links_made k bounds links) → is_named bounds n ≡ true → IfSome (slice_get vs place) (λ v. IsSome v.ages)
aged_from k place n bounds links [] m e named = tt
aged_from k place n bounds [] (v ∷ vs) m e named = absurd (cc e)
aged_from k zero n bounds (link ∷ links) (v ∷ vs) m e named =
    let number : n ≡ k = omega arith in
    aged_one (is_named bounds k) link v (cc e) (ap (is_named bounds) (sym number) ∙ named)
aged_from k (suc place) n bounds (link ∷ links) (v ∷ vs) m e named = aged_from (suc k) place n bounds links vs (omega arith) (cc e) named

aged_at : (bounds : List BoundSpec) (links : List LinkConf) (vs : List LinkView) (n : ℕ) → fixed_in vs ≡ fixed_in (links_made 1 bounds links) → is_named bounds n ≡ true → IsAged vs n
aged_at bounds links vs zero e named = tt
aged_at bounds links vs (suc place) e named = aged_from 1 place (suc place) bounds links vs (omega arith) e named

-- what is watched at a place that there is
pub watched_at : {t : Terms} {before : ChannelTold} {now : RunView} {count : ℕ} {h : ScriptHeading} {log : List PlantLine} {text : List ℕ} {bounds : List BoundSpec} {place : ℕ} {w : Watched} → RunStands t before now count h log text → bounds ≡ t.bounds → place < length bounds → w ≡ slice_index_or now.watched place w → slice_get now.watched place ≡ Some w
watched_at {t} {before} {now} {count} {h} {log} {text} {bounds} {place} {w} k same within read =
    let long = ap length k.watched_are ∙ length-map t.bounds (λ bound. watching t.begins.links bound (heard_of t.begins bound k.acts)) ∙ sym (ap length same) in
    slice_get_read now.watched (length now.watched) place w refl (omega (arith, long, within)) read

pub are_aged : {t : Terms} {before : ChannelTold} {now : RunView} {count : ℕ} {h : ScriptHeading} {log : List PlantLine} {text : List ℕ} (place : ℕ) {w : Watched} → RunStands t before now count h log text → slice_get now.watched place ≡ Some w → AreAged now.plant.links w.bound
are_aged {t} {before} {now} {count} {h} {log} {text} place {w} k at =
    let is = bound_at t.begins.links (λ bound. heard_of t.begins bound k.acts) t.bounds place w (rw k.watched_are at at) in
    record { estop = aged_at t.bounds t.begins.links now.plant.links w.bound.estop.link k.fixed is.0; drive = aged_at t.bounds t.begins.links now.plant.links w.bound.drive.link k.fixed is.1 }
