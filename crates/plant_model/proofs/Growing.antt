-- How the entries of a pair grow with the journal, and which frames are pushed then.
use Rattle.plant_model.proofs.Common.{End, Entry, JournalStep, LinkConf, Move, Use, append-nil, each_uses, entry_at, eq-eqb, frames_of, going_on, if_same, is_empty, newer, next_of, own_events, own_part, pair, pairs_by, peer, place_of, push_to, pushes_of, same_end, sent_uses, world_after}
use Rattle.std.proofs.Common.{◌≡◌, ◌≢◌, ◌≤◌, ◌<◌, length, ℕ, zero, suc, ◌+◌, ◌==◌, Bool, false, List, [], ◌∷◌, ◌++◌, map, All, slice_get, Option, Some, if◌then◌else◌, refl, sym, ap, ap₂, subst, ◌∙◌, arith, rules}
use Rattle.std.proofs.lemmas.List.Elements.{All-head, All-tail}
use Rattle.param_load.specs.declared.entry.Move.TheVariants as move
use Rattle.schedule_file.specs.declared.event.Event.{Event}
use Rattle.schedule_file.specs.declared.event.Event.TheVariants as at

pub not_same : (n k : ℕ) → n ≢ k → (n == k) ≡ false
not_same n k h = search rules

-- an event that names no frame, at an end
abbrev pub event_for : End → Move → Event
event_for end (move.Deliver bytes) = at.Raw end bytes
event_for end move.Tick = at.Tick end
event_for end (move.Put load) = at.Put end load
event_for end (move.Hold failsafe) = at.Hold end failsafe
event_for end (move.Nonce id) = at.Nonce end id
event_for end move.Local = at.Local end

-- what a step means for a connection stands for entries of their own, since none of its events names a frame
step_apart : (link : LinkConf) (k : ℕ) (s : JournalStep) (rest : List Event) (w : List Entry)
    → world_after link.master link.slave (own_part k s ++ rest) w ≡ world_after link.master link.slave rest (world_after link.master link.slave (own_part k s) w)
step_apart link k s rest w = grind arith

more_after : (link : LinkConf) (k : ℕ) (before more : List JournalStep) (w : List Entry)
    → world_after link.master link.slave (own_events k (before ++ more)) w ≡ world_after link.master link.slave (own_events k more) (world_after link.master link.slave (own_events k before) w)
more_after link k [] more w = refl
more_after link k (s ∷ before) more w =
    step_apart link k s (own_events k (before ++ more)) w
    ∙ more_after link k before more (world_after link.master link.slave (own_part k s) w)
    ∙ ap (world_after link.master link.slave (own_events k more)) (sym (step_apart link k s (own_events k before) w))

-- the entries of a pair by a longer journal
pub pair_more : (link : LinkConf) (k : ℕ) (before more : List JournalStep) → pair link k (before ++ more) ≡ world_after link.master link.slave (own_events k more) (pair link k before)
pair_more link k before more = more_after link k before more []

-- by one step more
pub pair_step : (link : LinkConf) (k : ℕ) (before : List JournalStep) (s : JournalStep) → pair link k (before ++ s ∷ []) ≡ world_after link.master link.slave (own_part k s) (pair link k before)
pair_step link k before s = pair_more link k before (s ∷ []) ∙ step_apart link k s [] (pair link k before)

-- what stays true without the newest entry is true of the older entries
going_back : (P : List Entry → Type 0) (o : Option Entry) (w : List Entry) (f : List Entry → List Entry) → ((x : Entry) → P (f (x ∷ w)) → P w) → P (going_on w o f) → P w
going_back P o w f h all = grind arith

back : (P : List Entry → Type 0) → ((x : Entry) (w : List Entry) → P (x ∷ w) → P w) → (link : LinkConf) (events : List Event) (w : List Entry) → P (world_after link.master link.slave events w) → P w
back P less link [] w all = all
back P less link (e ∷ events) w all = going_back P (entry_at link.master link.slave w e) w (world_after link.master link.slave events) (λ x more. less x w (back P less link events (x ∷ w) more)) all

pub pair_back : (P : List Entry → Type 0) → ((x : Entry) (w : List Entry) → P (x ∷ w) → P w) → (link : LinkConf) (k : ℕ) (before more : List JournalStep) → P (pair link k (before ++ more)) → P (pair link k before)
pair_back P less link k before more all = back P less link (own_events k more) (pair link k before) (subst P (pair_more link k before more) all)

-- a step changes nothing of what is made of the entries, and so do steps
abbrev pub Keeps : {X : Type 0} → (List Entry → X) → LinkConf → ℕ → JournalStep → Type 0
Keeps F link k s = (w : List Entry) → F (world_after link.master link.slave (own_part k s) w) ≡ F w

kept_after : {X : Type 0} (F : List Entry → X) (link : LinkConf) (k : ℕ) (steps : List JournalStep) (w : List Entry) → All (Keeps F link k) steps → F (world_after link.master link.slave (own_events k steps) w) ≡ F w
kept_after F link k [] w all = refl
kept_after F link k (s ∷ steps) w all =
    ap F (step_apart link k s (own_events k steps) w)
    ∙ kept_after F link k steps (world_after link.master link.slave (own_part k s) w) (All-tail (Keeps F link k) s steps all)
    ∙ All-head (Keeps F link k) s steps all w

pub steps_keep : {X : Type 0} (F : List Entry → X) (link : LinkConf) (k : ℕ) (before steps : List JournalStep) → All (Keeps F link k) steps → F (pair link k (before ++ steps)) ≡ F (pair link k before)
steps_keep F link k before steps all = ap F (pair_more link k before steps) ∙ kept_after F link k steps (pair link k before) all

-- one more entry of an end of connection n
abbrev pub one_more : ℕ → End → Move → (ℕ → LinkConf → List Entry) → ℕ → LinkConf → List Entry
one_more n end what done k link = if n == k then next_of end what link (done k link) ∷ done k link else done k link

-- a step is this event at this end of connection n, and nothing else
pub record IsOne (s : JournalStep) (n : ℕ) (end : End) (what : Move) : Type 0 where
  pub part : (k : ℕ) → own_part k s ≡ if_same n k (event_for end what)

pub one_world : (link : LinkConf) (end : End) (what : Move) (w : List Entry) (b : Bool)
    → world_after link.master link.slave (if b then event_for end what ∷ [] else []) w ≡ (if b then next_of end what link w ∷ w else w)
one_world link end what w b = grind arith

pub pair_one : (link : LinkConf) (k : ℕ) (before : List JournalStep) (s : JournalStep) (n : ℕ) (end : End) (what : Move) → IsOne s n end what
    → pair link k (before ++ s ∷ []) ≡ one_more n end what (pairs_by before) k link
pair_one link k before s n end what h =
    pair_step link k before s ∙ ap (λ (es : List Event). world_after link.master link.slave es (pair link k before)) (h.part k) ∙ one_world link end what (pair link k before) (n == k)

-- the entries where the step is of another connection, and where it is of this one
pub pair_other : (link : LinkConf) (k : ℕ) (before : List JournalStep) (s : JournalStep) (n : ℕ) (end : End) (what : Move) → IsOne s n end what → k ≢ n
    → pair link k (before ++ s ∷ []) ≡ pair link k before
pair_other link k before s n end what h other = pair_one link k before s n end what h ∙ rw (not_same n k (λ e. other (sym e))) refl

pub pair_own : (link : LinkConf) (before : List JournalStep) (s : JournalStep) (n : ℕ) (end : End) (what : Move) → IsOne s n end what
    → pair link n (before ++ s ∷ []) ≡ next_of end what link (pair link n before) ∷ pair link n before
pair_own link before s n end what h = pair_one link n before s n end what h ∙ rw (eq-eqb n n refl) refl

-- a frame before others, if there is one
abbrev pub with_frame : List ℕ → List (List ℕ) → List (List ℕ)
with_frame frame frames = if is_empty frame then frames else frame ∷ frames

-- what an end sends in the entry of an end
abbrev pub sent_in : End → End → Entry → List ℕ
sent_in end of x = if same_end end of then x.sent else []

-- the frame that is new, if there is one, is pushed
one_push : (k : ℕ) (end : End) (frames now : List (List ℕ)) (frame : List ℕ) (cut : Bool) → now ≡ with_frame frame frames → (if cut then [] else map (push_to k end) (newer frames now)) ≡ sent_uses (place_of k end) frame cut
one_push k end frames now frame cut h = grind arith

-- the frames of each connection, one at most, are pushed
pub pushes_each : (end : End) (k : ℕ) (links : List LinkConf) (cut : ℕ → Bool) (before now : List JournalStep) (frame : ℕ → LinkConf → List ℕ)
    → ((j : ℕ) (link : LinkConf) → k ≤ j → j < k + length links → frames_of end (pair link j now) ≡ with_frame (frame j link) (frames_of end (pair link j before)))
    → pushes_of end k links cut before now ≡ each_uses (λ j link. sent_uses (place_of j (peer end)) (frame j link) (cut j)) k links
pushes_each end k [] cut before now frame h = refl
pushes_each end k (link ∷ links) cut before now frame h =
    ap₂ (λ (xs ys : List Use). xs ++ ys)
    (one_push k (peer end) (frames_of end (pair link k before)) _ (frame k link) (cut k) (h k link (omega arith) (omega arith)))
    (pushes_each end (suc k) links cut before now frame (λ j l from below. h j l (omega arith) (omega arith)))

-- no connection has any uses from a number on
pub each_none : (uses : ℕ → LinkConf → List Use) (k : ℕ) (links : List LinkConf) → ((j : ℕ) (link : LinkConf) → k ≤ j → uses j link ≡ []) → each_uses uses k links ≡ []
each_none uses k [] h = refl
each_none uses k (link ∷ links) h = ap₂ (λ (xs ys : List Use). xs ++ ys) (h k link (omega arith)) (each_none uses (suc k) links (λ j l past. h j l (omega arith)))

-- none but one
pub each_one : (uses : ℕ → LinkConf → List Use) (k n place : ℕ) (links : List LinkConf) (link : LinkConf) → ((j : ℕ) (l : LinkConf) → j ≢ n → uses j l ≡ []) → slice_get links place ≡ Some link → n ≡ k + place
    → each_uses uses k links ≡ uses n link
each_one uses k n place [] link h e i = absurd (cc e)
each_one uses k n zero (l ∷ links) link h e i =
    let same : l ≡ link = cc in
    let number : k ≡ n = omega arith in
    ap₂ (λ (xs ys : List Use). xs ++ ys) (ap₂ uses number same) (each_none uses (suc k) links (λ j l past. h j l (λ z. absurd (omega arith)))) ∙ append-nil (uses n link)
each_one uses k n (suc place) (l ∷ links) link h e i =
    ap₂ (λ (xs ys : List Use). xs ++ ys) (h k l (λ z. absurd (omega arith))) (each_one uses (suc k) n place links link h e (omega arith))

-- a step that means nothing for the ends
pub no_entry : (link : LinkConf) (k : ℕ) (steps : List JournalStep) (s : JournalStep) → own_part k s ≡ [] → pair link k (steps ++ s ∷ []) ≡ pair link k steps
no_entry link k steps s h = pair_step link k steps s ∙ ap (λ (es : List Event). world_after link.master link.slave es (pair link k steps)) h
