-- Where the lines of the script and the pulls stand in a journal, what the channel gave, and how often it gave nothing.
use Rattle.plant_model.proofs.Common.{Act, App, Beginning, End, Event, Happen, IsPast, JournalStep, LinkConf, Parcel, PullFrom, PullsFit, Said, Start, all_pushes, append-nil, changed_by, common_steps, cond, act_cycle, empty_pulls, flat_map-append, gifts, is_cut, is_tick_step, journal, line_step, line_steps, map-append, masters, offer_step, offers, one_if_left, option_to_list, pulled_in, pulls_after, push_to, pushes_of, said_in, short_ticks, steps_of, sum_by-append, uses, uses_of, with_line}
use Rattle.std.proofs.Common.{◌≡◌, ◌<◌, ℕ, suc, ◌-◌, List, [], ◌∷◌, ◌++◌, map, All, Option, Some, None, refl, sym, ap, ap₂, subst, ◌∙◌, arith, ◌+◌, Bool}
use Rattle.std.specs.List.{flat_map, count_by}
use Rattle.std.proofs.lemmas.List.Elements.{All-cons, All-nil, filter-append}
use Rattle.plant_model.specs.PlantReport.{is_line}
use Rattle.plant_model.specs.declared.journal.JournalStep.TheVariants as step
use Rattle.std.specs.Prelude.{is_none}
use Rattle.plant_model.specs.Gifts.{pull_of, pulls}
use Rattle.plant_model.specs.JournalLaws.{parcel_of}

-- what an offer changes nothing of, the offers of an act change nothing of
over_listed {ℓ} : {X : Type ℓ} (F : List JournalStep → X) → ((x : ℕ × List ℕ) (steps : List JournalStep) → F (offer_step x ∷ steps) ≡ F steps) → (listed : List (ℕ × List ℕ)) (rest : List JournalStep)
    → F (map offer_step listed ++ rest) ≡ F rest
over_listed F h [] rest = refl
over_listed F h (x ∷ listed) rest = h x (map offer_step listed ++ rest) ∙ over_listed F h listed rest

over_offers {ℓ} : {X : Type ℓ} (F : List JournalStep → X) → ((x : ℕ × List ℕ) (steps : List JournalStep) → F (offer_step x ∷ steps) ≡ F steps) → (b : Beginning) (act : Act) (done : List Act) (rest : List JournalStep)
    → F (offers b act done ++ rest) ≡ F rest
over_offers F h b act done rest = over_listed F h (changed_by (act_cycle b act done) (masters b done).connections) rest

pub offers_alone {ℓ} : {X : Type ℓ} (F : List JournalStep → X) → ((x : ℕ × List ℕ) (steps : List JournalStep) → F (offer_step x ∷ steps) ≡ F steps) → (b : Beginning) (act : Act) (done : List Act) → F (offers b act done) ≡ F []
offers_alone F h b act done = ap F (sym (append-nil (offers b act done))) ∙ over_offers F h b act done []

-- what holds of each offer
pub each_listed : (P : JournalStep → Type 0) → ((x : ℕ × List ℕ) → P (offer_step x)) → (listed : List (ℕ × List ℕ)) → All P (map offer_step listed)
each_listed P h [] = All-nil P
each_listed P h (x ∷ listed) = All-cons P (offer_step x) (map offer_step listed) (h x) (each_listed P h listed)

-- how many parcels may still come after these steps
abbrev room_after : ℕ → List JournalStep → ℕ
room_after room [] = room
room_after room (step.Offer link load ∷ steps) = room_after room steps
room_after room (step.Pulled parcel ∷ steps) = room_after (room - 1) steps
room_after room (line ∷ steps) = room_after (pulls_after (is_tick_step line)) steps

-- pulls fit, and so many more may come
abbrev pub Leaves : ℕ → List JournalStep → ℕ → Type 0
Leaves room steps left = PullsFit room steps × (room_after room steps ≡ left)

then_leaves : (room mid left : ℕ) (xs ys : List JournalStep) → Leaves room xs mid → Leaves mid ys left → Leaves room (xs ++ ys) left
then_leaves room mid left [] ys h i = subst (λ (r : ℕ). Leaves r ys left) (sym h.1) i
then_leaves room mid left (step.Offer link load ∷ xs) ys h i = then_leaves room mid left xs ys h i
then_leaves room mid left (step.Pulled parcel ∷ xs) ys h i = let rest = then_leaves (room - 1) mid left xs ys (h.0.1, h.1) i in ((h.0.0, rest.0), rest.1)
then_leaves room mid left (line ∷ xs) ys h i = then_leaves (pulls_after (is_tick_step line)) mid left xs ys h i

offers_leave : (b : Beginning) (act : Act) (done : List Act) (room : ℕ) → Leaves room (offers b act done) room
offers_leave b act done room = subst (λ (T : Type 0). T) (sym (offers_alone (λ steps. Leaves room steps room) (λ x steps. refl) b act done)) (tt, refl)

line_leaves : (b : Beginning) (said : Said) (done : List Act) (room : ℕ) → Leaves room (line_step said ∷ offers b (Happen said) done) (pulls_after (is_tick_step (line_step said)))
line_leaves b (Event e) done room = offers_leave b (Happen (Event e)) done (pulls_after (is_tick_step (step.Script e)))
line_leaves b (App a) done room = offers_leave b (Happen (App a)) done 0

-- the journal of acts that there may be fits; where more may be pulled it leaves as many
past_fits : (b : Beginning) (room : ℕ) (done : List Act) → IsPast room done → (left : ℕ) × Leaves 0 (journal b done) left × (0 < room → left ≡ room)
past_fits b room (Start ∷ []) h = (0, offers_leave b Start [] 0, λ some. sym h)
past_fits b room (Happen said ∷ done) h =
    let before = past_fits b 0 done h.1 in
    (pulls_after (is_tick_step (line_step said)), then_leaves 0 before.0 _ (journal b done) _ before.1 (line_leaves b said done before.0), λ some. sym h.0)
past_fits b room (PullFrom None ∷ done) h =
    let before = past_fits b (suc h.1.0) done h.1.1 in
    (before.0, then_leaves 0 before.0 before.0 (journal b done) [] before.1 (tt, refl), λ some. absurd (omega (arith, some, h.0)))
past_fits b room (PullFrom (Some parcel) ∷ done) h =
    let before = past_fits b (suc room) done h in
    let last = over_offers (λ steps. Leaves (suc room) steps room) (λ x steps. refl) b (PullFrom (Some parcel)) done (step.Pulled parcel ∷ []) in
    let fits = subst (Leaves 0 (journal b done)) (before.2 (omega arith)) before.1 in
    (room, then_leaves 0 (suc room) room (journal b done) _ fits (subst (λ (T : Type 0). T) (sym last) ((omega arith, tt), omega arith)), λ some. refl)
past_fits b room _ h = absurd h

pub pulls_fit : (b : Beginning) (done : List Act) → IsPast 0 done → PullsFit 0 (journal b done)
pulls_fit b done h = (past_fits b 0 done h).1.0

-- offers are no lines of the script, and no parcels
pub no_lines_by : (b : Beginning) (act : Act) (done : List Act) → line_steps (offers b act done) ≡ []
no_lines_by b act done = offers_alone line_steps (λ x steps. refl) b act done

pub no_parcels : (b : Beginning) (act : Act) (done : List Act) → pulled_in (offers b act done) ≡ []
no_parcels b act done = offers_alone pulled_in (λ x steps. refl) b act done

no_more : (steps more : List JournalStep) → line_steps more ≡ [] → line_steps (steps ++ more) ≡ line_steps steps
no_more steps more none = grind (arith, common_steps)

pub no_lines_pulled : (b : Beginning) (parcel : Parcel) (done : List Act) → line_steps (steps_of (PullFrom (Some parcel)) (offers b (PullFrom (Some parcel)) done)) ≡ []
no_lines_pulled b parcel done = no_more (offers b (PullFrom (Some parcel)) done) (step.Pulled parcel ∷ []) refl ∙ no_lines_by b (PullFrom (Some parcel)) done

one_line : (said : Said) (more : List JournalStep) → line_steps more ≡ [] → line_steps (line_step said ∷ more) ≡ line_step said ∷ []
one_line said more h = grind arith

pub lines_are_said : (b : Beginning) (done : List Act) → line_steps (journal b done) ≡ map line_step (said_in done)
lines_are_said b [] = refl
lines_are_said b (Happen said ∷ done) =
    filter-append is_line (journal b done) (line_step said ∷ offers b (Happen said) done)
    ∙ ap₂ (λ (xs ys : List JournalStep). xs ++ ys) (lines_are_said b done) (one_line said (offers b (Happen said) done) (no_lines_by b (Happen said) done))
    ∙ sym (map-append line_step (said_in done) (said ∷ []))
lines_are_said b (PullFrom (Some parcel) ∷ done) = no_more (journal b done) _ (no_lines_pulled b parcel done) ∙ lines_are_said b done
lines_are_said b (act ∷ done) = no_more (journal b done) _ (no_lines_by b act done) ∙ lines_are_said b done

-- a line more was said
pub line_said : (said : Said) (gifts : List (Option Parcel)) (done : List Act) → said_in (with_line said gifts done) ≡ said_in done ++ said ∷ []
line_said said [] done = refl
line_said said (gift ∷ gifts) done = line_said said gifts done

-- what the pulls of an act gave
abbrev pub given_by : Act → List (Option Parcel)
given_by (PullFrom gift) = gift ∷ []
given_by _ = []

pub act_gives : (act : Act) (more : List JournalStep) → pulled_in more ≡ [] → pulled_in (steps_of act more) ≡ flat_map option_to_list (given_by act)
act_gives act more h = grind (arith, common_steps)

-- pushes are no pulls
push_list : (k : ℕ) (end : End) (frames : List (List ℕ)) → pulls (map (push_to k end) frames) ≡ []
push_list k end [] = refl
push_list k end (frame ∷ frames) = push_list k end frames

pushes_none : (end : End) (k : ℕ) (links : List LinkConf) (cut : ℕ → Bool) (before now : List JournalStep) → pulls (pushes_of end k links cut before now) ≡ []
pushes_none end k [] cut before now = refl
pushes_none end k (link ∷ links) cut before now = grind (arith, common_steps, push_list, pushes_none end (suc k) links cut before now)

act_pulls : (seed : ℕ) (act : Act) (links : List LinkConf) (cut : ℕ → Bool) (before now : List JournalStep) → pulls (uses_of seed act (all_pushes links cut before now)) ≡ given_by act
act_pulls seed act links cut before now = grind (arith, common_steps, pushes_none)

-- an act more
pulls_more : (b : Beginning) (act : Act) (done : List Act) → pulls (uses b (act ∷ done)) ≡ pulls (uses b done) ++ given_by act
pulls_more b act done =
    let before : List Act = done ++ [] in
    flat_map-append pull_of (uses b done) _
    ∙ ap (λ (ys : List (Option Parcel)). pulls (uses b done) ++ ys) (act_pulls b.seed act b.links (λ k. is_cut k (act ∷ before)) (journal b before) (journal b (act ∷ before)))

pub given : (b : Beginning) (done : List Act) → gifts (uses b done) ≡ pulled_in (journal b done)
given b [] = refl
given b (act ∷ done) =
    ap (flat_map option_to_list) (pulls_more b act done)
    ∙ flat_map-append option_to_list (pulls (uses b done)) (given_by act)
    ∙ ap₂ (λ (xs ys : List Parcel). xs ++ ys) (given b done) (sym (act_gives act (offers b act done) (no_parcels b act done)))
    ∙ sym (flat_map-append parcel_of (journal b done) (steps_of act (offers b act done)))

empty_more : (b : Beginning) (act : Act) (done : List Act) → empty_pulls (uses b (act ∷ done)) ≡ empty_pulls (uses b done) + count_by is_none (given_by act)
empty_more b act done = ap (count_by is_none) (pulls_more b act done) ∙ sum_by-append (λ gift. cond (is_none gift) 1 0) (pulls (uses b done)) (given_by act)

none_adds : (room n : ℕ) → one_if_left room n ≡ one_if_left room 0 + n
none_adds room n = grind arith

-- the short ticks of a journal that goes on: what may still come after its first part is counted with the second
short_joined : (room : ℕ) (xs ys : List JournalStep) → short_ticks room (xs ++ ys) + one_if_left (room_after room xs) 0 ≡ short_ticks room xs + short_ticks (room_after room xs) ys
short_joined room [] ys = omega arith
short_joined room (step.Offer link load ∷ xs) ys = short_joined room xs ys
short_joined room (step.Pulled parcel ∷ xs) ys = short_joined (room - 1) xs ys
short_joined room (line ∷ xs) ys =
    let next : ℕ = pulls_after (is_tick_step line) in
    omega (arith, short_joined next xs ys, none_adds room (short_ticks next (xs ++ ys)), none_adds room (short_ticks next xs))

line_short : (b : Beginning) (said : Said) (done : List Act) (room : ℕ)
    → short_ticks room (line_step said ∷ offers b (Happen said) done) ≡ one_if_left room (one_if_left (pulls_after (is_tick_step (line_step said))) 0)
line_short b (Event e) done room = ap (one_if_left room) (offers_alone (short_ticks (pulls_after (is_tick_step (step.Script e)))) (λ x steps. refl) b (Happen (Event e)) done)
line_short b (App a) done room = ap (one_if_left room) (offers_alone (short_ticks 0) (λ x steps. refl) b (Happen (App a)) done)

-- a tick is short while parcels may come, and stays so after a pull that gave nothing
past_short : (b : Beginning) (room : ℕ) (done : List Act) → IsPast room done → short_ticks 0 (journal b done) ≡ empty_pulls (uses b done) + one_if_left room 0
past_short b room (Start ∷ []) h = omega (arith, offers_alone (short_ticks 0) (λ x steps. refl) b Start [], empty_more b Start [], ap (λ (n : ℕ). one_if_left n 0) h)
past_short b room (Happen said ∷ done) h =
    let js : List JournalStep = journal b done in
    let left : ℕ = room_after 0 js in
    let next : ℕ = one_if_left (pulls_after (is_tick_step (line_step said))) 0 in
    let here : one_if_left room 0 ≡ next = ap (λ (n : ℕ). one_if_left n 0) h.0 in
    omega (arith, short_joined 0 js (line_step said ∷ offers b (Happen said) done), line_short b said done left, none_adds left next, past_short b 0 done h.1, here, empty_more b (Happen said) done)
past_short b room (PullFrom None ∷ done) h =
    let here : one_if_left room 0 ≡ 0 = ap (λ (n : ℕ). one_if_left n 0) h.0 in
    omega (arith, ap (short_ticks 0) (append-nil (journal b done)), past_short b (suc h.1.0) done h.1.1, here, empty_more b (PullFrom None) done)
past_short b room (PullFrom (Some parcel) ∷ done) h =
    let js : List JournalStep = journal b done in
    let more : List JournalStep = offers b (PullFrom (Some parcel)) done ++ step.Pulled parcel ∷ [] in
    let before = past_fits b (suc room) done h in
    let left : room_after 0 js ≡ suc room = before.1.1 ∙ before.2 (omega arith) in
    let joined = rw left at (short_joined 0 js more) in
    let one : suc room - 1 ≡ room = omega arith in
    let last = over_offers (short_ticks (suc room)) (λ x steps. refl) b (PullFrom (Some parcel)) done (step.Pulled parcel ∷ []) ∙ ap (λ (n : ℕ). one_if_left n 0) one in
    omega (arith, joined, last, past_short b (suc room) done h, empty_more b (PullFrom (Some parcel)) done)
past_short b room _ h = absurd h

pub empties : (b : Beginning) (done : List Act) → IsPast 0 done → empty_pulls (uses b done) ≡ short_ticks 0 (journal b done)
empties b done h = omega (arith, past_short b 0 done h)
