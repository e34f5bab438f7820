-- One end of each pair ticks, one pair after another.
use Rattle.duo_run.proofs.Common.{AllStandOver, CanStep, DuoStands, DuoView, End, Entry, Event, Misses, Pair, Some, StandsOver, TellsNext, Ticks, ToldNext, append-nil, each_line, entries_over, entry_after, length-take-le, length_push, line_if, numbered, slice_get_within, steps_done, take_all, tick_lines, with_tick, world_next}
use Rattle.std.proofs.Common.{◌≡◌, ◌<◌, ◌+◌, ◌^◌, ℕ, zero, suc, List, [], ◌∷◌, ◌++◌, length, take, slice_get, slice_set, refl, arith, ap, sym, subst, ◌∙◌, append_assoc, add-one, rules}
use Rattle.schedule_file.specs.declared.event.Event.TheVariants as event
use Rattle.duo_run.proofs.Pairs.At.{SetTo, named, set_more, set_none}

-- a pair goes on with an event that has its entry
pub goes_over : (p : Pair) (own : List Event) (event : Event) (x : Entry) (new : DuoView) → length (entries_over p own) ≡ length own → entry_after p own event ≡ Some x → DuoStands p.master p.slave new (x ∷ entries_over p own)
    → StandsOver p (own ++ event ∷ []) new
goes_over p own event x new whole next stands =
    let longer : entries_over p (own ++ event ∷ []) ≡ x ∷ entries_over p own = world_next p.master p.slave own event x whole next in
    record {
      stands = subst (DuoStands p.master p.slave new) (sym longer) stands;
      whole = ap (length {A = Entry}) longer ∙ (let e : suc (length (entries_over p own)) ≡ length (own ++ event ∷ []) = omega (arith, whole, length_push own event) in e);
    }

-- the steps of a pair are counted
pub counted_over : (p : Pair) (own : List Event) (v : DuoView) → StandsOver p own v → steps_done v ≡ length own
counted_over p own v s = ap (λ m. m.noted) s.stands.monitor ∙ s.whole

-- a tick always has its entry
pub tick_met : (p : Pair) (own : List Event) (v : DuoView) (at : End) → StandsOver p own v → Misses v (event.Tick at) → ⊥
tick_met p own v at h k = grind arith

-- the pairs before the next one, and it
pub taken : {X : Type 0} (xs : List X) (i : ℕ) (x : X) → slice_get xs i ≡ Some x → take (suc i) xs ≡ take i xs ++ x ∷ []
taken [] i x at = cc
taken (a ∷ xs) zero x at = let same : a ≡ x = cc in ap (λ z. z ∷ []) same
taken (a ∷ xs) (suc i) x at = ap (λ (rest : List _). a ∷ rest) (taken xs i x at)

pub found_at : {X : Type 0} (xs : List X) (i : ℕ) → i < length xs → (x : X) × (slice_get xs i ≡ Some x)
found_at [] i h = absurd (omega arith)
found_at (a ∷ xs) zero h = (a, refl)
found_at (a ∷ xs) (suc i) h = found_at xs i (omega arith)

-- the pair of a number, whose duo stands at the place before
pub stood_at : (pairs : List Pair) (own : ℕ → List Event) (duos : List DuoView) (k place : ℕ) (v : DuoView) → k ≡ place + 1 → AllStandOver pairs own duos → slice_get duos place ≡ Some v → (p : Pair) × (numbered k pairs ≡ Some p) × StandsOver p (own k) v
stood_at pairs own duos k place v e stand v-at =
    let below = slice_get_within duos place v v-at in
    let found = found_at pairs place (omega (arith, below, stand.many)) in
    let p-at : numbered k pairs ≡ Some found.0 = named k place pairs found.0 e found.1 in
    (found.0, p-at, stand.each k found.0 v p-at (named k place duos v e v-at))

-- the line of one more
each-push : {X : Type 0} (line : ℕ → X → List ℕ) (k m : ℕ) (xs : List X) (x : X) → m ≡ k + length xs → each_line line k (xs ++ x ∷ []) ≡ each_line line k xs ++ line m x
each-push line k m [] x e = append-nil (line k x) ∙ ap (λ (m : ℕ). line m x) (let same : k ≡ m = omega (arith, e) in same)
each-push line k m (y ∷ xs) x e =
    ap (λ (rest : List ℕ). line k y ++ rest) (each-push line (suc k) m xs x (omega (arith, e))) ∙ sym (append_assoc (line k y) (each_line line (suc k) xs) (line m x))

pub each_more : {X : Type 0} (line : ℕ → X → List ℕ) (xs : List X) (i m : ℕ) (x : X) → m ≡ i + 1 → slice_get xs i ≡ Some x → each_line line 1 (take (i + 1) xs) ≡ each_line line 1 (take i xs) ++ line m x
each_more line xs i m x e at =
    let below = slice_get_within xs i x at in
    let long = length-take-le i xs (omega (arith, below)) in
    ap (each_line line 1) (ap (λ (n : ℕ). take n xs) (add-one i) ∙ taken xs i x at) ∙ each-push line 1 m (take i xs) x (omega (arith, long, e))

-- this end of a pair has ticked
abbrev pub HasTicked : End → ℕ → DuoView → DuoView → Type 0
HasTicked at j v w = (p : Pair) (own : List Event) → StandsOver p own v → StandsOver p (own ++ event.Tick at ∷ []) w

-- so many of the pairs have ticked
pub record TickedTo (at : End) (n i : ℕ) (old : List DuoView) (before : List ℕ) (now : List DuoView) (after : List ℕ) : Type 0 where
  pub set : SetTo (HasTicked at) i old now
  pub lines : (pairs : List Pair) (own : ℕ → List Event) → AllStandOver pairs own old → after ≡ before ++ tick_lines n own at 1 (take i pairs)

pub ticked_none : (at : End) (n : ℕ) (old : List DuoView) (before : List ℕ) → TickedTo at n 0 old before old before
ticked_none at n old before = record { set = set_none (HasTicked at) old; lines = λ pairs own h. sym (append-nil before) }

pub ticked_more : (at : End) (n i k : ℕ) (old : List DuoView) (before : List ℕ) (now later : List DuoView) (after longer line : List ℕ) (v new : DuoView) → k ≡ i + 1 → TickedTo at n i old before now after → slice_get now i ≡ Some v
    → TellsNext v (event.Tick at) n k new line → later ≡ slice_set now i new → longer ≡ after ++ line → TickedTo at n (i + 1) old before later longer
ticked_more at n i k old before now later after longer line v new e t v-at tells is more = record {
  set = subst (SetTo (HasTicked at) (i + 1) old) (sym is)
      (set_more (HasTicked at) i old now v new t.set v-at
      (λ p own s. let told = tells.tells p.master p.slave (entries_over p own) s.stands in goes_over p own (event.Tick at) told.entry new s.whole told.next told.stands));
  lines = λ pairs own h.
      let stood = stood_at pairs own old (suc i) i v (omega arith) h (sym (t.set.rest i (omega arith)) ∙ v-at) in
      let p : Pair = stood.0 in
      let told : ToldNext p.master p.slave (entries_over p (own (suc i))) (event.Tick at) n k new line = tells.tells p.master p.slave (entries_over p (own (suc i))) stood.2.stands in
      let number : k ≡ suc i = omega (arith, e) in
      let line_is : line ≡ line_if n (suc i) (entry_after p (own (suc i)) (event.Tick at)) = search rules in
      more ∙ ap (λ (z : List ℕ). z ++ line) (t.lines pairs own h)
      ∙ append_assoc before (tick_lines n own at 1 (take i pairs)) line
      ∙ ap (λ (z : List ℕ). before ++ z)
      (ap (λ (z : List ℕ). tick_lines n own at 1 (take i pairs) ++ z) line_is
      ∙ sym (each_more (λ k p. line_if n k (entry_after p (own k) (event.Tick at))) pairs i (suc i) p (omega arith) stood.1));
}

ticked_at : (at : End) (n i : ℕ) (old : List DuoView) (before : List ℕ) (now : List DuoView) (after : List ℕ) (pairs : List Pair) (own : ℕ → List Event) → i ≡ length old → TickedTo at n i old before now after → AllStandOver pairs own old
    → (k : ℕ) (p : Pair) (v : DuoView) → numbered k pairs ≡ Some p → numbered k now ≡ Some v → StandsOver p (with_tick at own k) v
ticked_at at n i old before now after pairs own all t h zero p v p-at v-at = cc
ticked_at at n i old before now after pairs own all t h (suc j) p v p-at v-at =
    let below = slice_get_within pairs j p p-at in
    let was = found_at old j (omega (arith, below, h.many)) in
    t.set.done j (omega (arith, below, h.many, all)) was.0 v was.1 v-at p (own (suc j)) (h.each (suc j) p was.0 p-at was.1)

pub ticked_all : (at : End) (n i : ℕ) (old : List DuoView) (before : List ℕ) (now : List DuoView) (after : List ℕ) → i ≡ length old → TickedTo at n i old before now after → Ticks at n old before now after
ticked_all at n i old before now after all t = record {
  ticks = λ pairs own h. record {
    stand = record { many = t.set.many ∙ h.many; each = ticked_at at n i old before now after pairs own all t h };
    lines = t.lines pairs own h ∙ ap (λ (pairs : List Pair). before ++ tick_lines n own at 1 pairs) (take_all i pairs (omega (arith, all, h.many)));
  };
}

-- the next pair may tick, and its tick has an entry
pub next_ticks : (at : End) (n i : ℕ) (old : List DuoView) (before : List ℕ) (now : List DuoView) (after : List ℕ) (v : DuoView) → CanStep old → TickedTo at n i old before now after → slice_get now i ≡ Some v
    → (steps_done v + 1 < 2 ^ 64) × (Misses v (event.Tick at) → ⊥)
next_ticks at n i old before now after v can t v-at =
    let stood = stood_at can.pairs can.own old (suc i) i v (omega arith) can.stand (sym (t.set.rest i (omega arith)) ∙ v-at) in
    let counted = counted_over stood.0 (can.own (suc i)) v stood.2 in
    let few = can.few (suc i) in
    (omega (arith, counted, few), tick_met stood.0 (can.own (suc i)) v at stood.2)
