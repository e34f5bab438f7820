-- What the slaves and the masters of all connections do in a tick, and what is pushed then.
use Rattle.plant_core.proofs.Common.{Acted, All-cons, All-drop, All-head, All-nil, All-tail, All-weaker, AreNoted, Change, Did, EachActs, EachLink, End, Entry, Fixed, IsNumber, IsPlant, IsSome, IsSomeAnd, Lengths, LinkConf, LinkIs, LinkStands, LinkView, MultiValue, NotesOne, Placed, ChannelTold, Trace, Use, all_at, append-nil, drop-set-lt, drop_more, each_uses, fixed_in, fixed_of, get_or_from_slice_get, lengths_at, length-set, lengths_kept, map_set, place_of, placed, same_length, sent_uses, slice_get-map, slice_get_read, slice_get_within, take_all, take_more_set}
use Rattle.std.proofs.Common.{◌≡◌, ◌≤◌, ℕ, zero, suc, ◌+◌, ◌-◌, ◌*◌, ◌<◌, ◌^◌, Bool, List, [], ◌∷◌, ◌++◌, take, drop, get_or, length, slice_get, slice_index_or, slice_set, Option, Some, option_map, refl, sym, ap, ap₂, subst, ◌∙◌, append_assoc, arith}
use Rattle.std.proofs.lemmas.List.{drop_all}
use Rattle.std.proofs.lemmas.List.Elements.{All-set}
use Rattle.multi_master.specs.Standing as multi

-- one entry more with each connection
abbrev pub one_each : (ℕ → LinkConf → Entry) → (ℕ → LinkConf → List Entry) → ℕ → LinkConf → List Entry
one_each next done k link = next k link ∷ done k link

-- one trace after another
pub trace_append : (xs ys : List Use) (a b c : ChannelTold) → Trace xs a b → Trace ys b c → Trace (xs ++ ys) a c
trace_append [] ys a b c t u = subst (λ (z : ChannelTold). Trace ys z c) (sym t) u
trace_append (x ∷ xs) ys a b c t u = (t.0, t.1, trace_append xs ys t.0 b c t.2 u)

-- each connection up to a place acted, and the others are as they were: with what these become, all acted
pub record EachTo (Acts : Change) (i : ℕ) (old new : List LinkView) (before after : ChannelTold) : Type 0 where
  pub acted : (rest : List LinkView) (last : ChannelTold) → EachActs Acts i (drop i old) rest after last → EachActs Acts 0 old (take i new ++ rest) before last
  pub left : drop i new ≡ drop i old
  pub count : length new ≡ length old

pub each_begun : (Acts : Change) (vs : List LinkView) (t : ChannelTold) → EachTo Acts 0 vs vs t t
each_begun Acts vs t = record { acted = λ rest last h. h; left = refl; count = refl }

-- what is left from a place on
pub next_left : {X : Type 0} (xs : List X) (i : ℕ) (x : X) → slice_get xs i ≡ Some x → drop i xs ≡ x ∷ drop (i + 1) xs
next_left xs i x at = drop_more xs i x (slice_get_within xs i x at) ∙ ap (λ z. z ∷ drop (i + 1) xs) (get_or_from_slice_get xs i x x at)

pub still_there : (Acts : Change) (i : ℕ) (old new : List LinkView) (before after : ChannelTold) (v : LinkView) → EachTo Acts i old new before after → slice_get new i ≡ Some v → drop i old ≡ v ∷ drop (i + 1) new
still_there Acts i old new before after v g at = sym g.left ∙ next_left new i v at

pub each_more : (Acts : Change) (i : ℕ) (first vs : List LinkView) (old new : LinkView) (start before after : ChannelTold) → EachTo Acts i first vs start before → i < length vs → old ≡ get_or vs i old → Acts i old new before after
    → EachTo Acts (i + 1) first (slice_set vs i new) start after
each_more Acts i first vs old new start before after g within read acts =
    let at = slice_get_read vs (length vs) i old refl within read in
    let next : drop i first ≡ get_or first i old ∷ drop (i + 1) first = drop_more first i old (omega (arith, g.count)) in
    let was : drop i first ≡ old ∷ drop (i + 1) vs = still_there Acts i first vs start before old g at in
    let here : drop i first ≡ old ∷ drop (i + 1) first = cc in
    let number : i + 1 ≡ suc i = omega arith in
    record {
      acted = λ rest last h.
          rw (take_more_set vs i new within, append_assoc (take i vs) (new ∷ []) rest)
          (g.acted (new ∷ rest) last (rw here (after, acts, subst (λ (n : ℕ). EachActs Acts n (drop (i + 1) first) rest after last) number h)));
      left = drop-set-lt (i + 1) vs i new (omega arith) ∙ (cc);
      count = length-set vs i new ∙ g.count;
    }

pub each_acted : (Acts : Change) (i : ℕ) (old new : List LinkView) (before after : ChannelTold) → EachTo Acts i old new before after → length old ≤ i → EachActs Acts 0 old new before after
each_acted Acts i old new before after g past =
    rw (take_all i new (omega (arith, g.count)), append-nil new) at (g.acted [] after (rw (drop_all i old past) refl))

-- the place that comes next has room for an entry more
pub next_few : (Acts : Change) (i : ℕ) (old new : List LinkView) (before after : ChannelTold) (v : LinkView) → EachTo Acts i old new before after → AreNoted (2 ^ 64 - 2) old → i < length new → v ≡ get_or new i v
    → v.monitor.noted + 1 < 2 ^ 64
next_few Acts i old new before after v g few within read =
    let at = slice_get_read new (length new) i v refl within read in
    let le = All-head (λ (z : LinkView). z.monitor.noted ≤ 2 ^ 64 - 2) v (drop (i + 1) new) (rw (still_there Acts i old new before after v g at) at (All-drop (λ (z : LinkView). z.monitor.noted ≤ 2 ^ 64 - 2) i old few)) in
    omega arith

-- what was noted with each, and what stays of it
pub each_noted : (Acts : Change) (place most more : ℕ) (old new : List LinkView) (before after : ChannelTold) → ((n : ℕ) (v w : LinkView) (t u : ChannelTold) → Acts n v w t u → NotesOne v w) → EachActs Acts place old new before after
    → most < more → AreNoted most old → AreNoted more new
each_noted Acts place most more [] [] before after f h le few = All-nil (λ (z : LinkView). z.monitor.noted ≤ more)
each_noted Acts place most more (v ∷ old) (w ∷ new) before after f h le few =
    let one = (f place v w before h.0 h.1).noted in
    let was = All-head (λ (z : LinkView). z.monitor.noted ≤ most) v old few in
    All-cons (λ (z : LinkView). z.monitor.noted ≤ more) w new (omega arith) (each_noted Acts (suc place) most more old new h.0 after f h.2 le (All-tail (λ (z : LinkView). z.monitor.noted ≤ most) v old few))
each_noted Acts place most more _ _ before after f h le few = absurd h

pub each_fixed : (Acts : Change) (place : ℕ) (old new : List LinkView) (before after : ChannelTold) → ((n : ℕ) (v w : LinkView) (t u : ChannelTold) → Acts n v w t u → NotesOne v w) → EachActs Acts place old new before after
    → fixed_in new ≡ fixed_in old
each_fixed Acts place [] [] before after f h = refl
each_fixed Acts place (v ∷ old) (w ∷ new) before after f h = ap₂ (λ (x : Fixed) (xs : List Fixed). x ∷ xs) (f place v w before h.0 h.1).fixed (each_fixed Acts (suc place) old new h.0 after f h.2)
each_fixed Acts place _ _ before after f h = absurd h

-- each connection has one entry more, and its frame was pushed to this end
pub all_acted : (Acts : Change) (to : End) (place : ℕ) (links : List LinkConf) (cut : ℕ → Bool) (done : ℕ → LinkConf → List Entry) (next : ℕ → LinkConf → Entry) (old new : List LinkView) (before after : ChannelTold)
    → EachActs Acts place old new before after → EachLink (LinkIs cut done) (suc place) links old → ((n : ℕ) (v w : LinkView) (t u : ChannelTold) → Acts n v w t u → NotesOne v w)
    → ((i n : ℕ) (link : LinkConf) (v w : LinkView) (t u : ChannelTold) → slice_get links i ≡ Some link → n ≡ place + i → Acts n v w t u → LinkStands link v (done (suc n) link) → Acted (suc n) to link (next (suc n) link) (done (suc n) link) v w t u)
    → EachLink (LinkIs cut (one_each next done)) (suc place) links new × Trace (each_uses (λ k link. sent_uses (place_of k to) (next k link).sent (cut k)) (suc place) links) before after
all_acted Acts to place [] cut done next [] [] before after h p notes f = (tt, h)
all_acted Acts to place (link ∷ links) cut done next (v ∷ old) (w ∷ new) before after h p notes f =
    let acted = f 0 place link v w before h.0 refl (omega arith) h.1 p.0.stands in
    let rest = all_acted Acts to (suc place) links cut done next old new h.0 after h.2 p.1 notes (λ i n l x y t u at e a s. f (suc i) n l x y t u at (omega arith) a s) in (
      (record { stands = acted.stands; cut = (notes place v w before h.0 h.1).cut ∙ p.0.cut }, rest.0),
      trace_append (sent_uses (place_of (suc place) to) (next (suc place) link).sent (cut (suc place))) (each_uses (λ k link. sent_uses (place_of k to) (next k link).sent (cut k)) (suc (suc place)) links) before h.0 after
          (subst (λ (c : Bool). Trace (sent_uses (place_of (suc place) to) (next (suc place) link).sent c) before h.0) p.0.cut acted.channel) rest.1,
    )
all_acted Acts to place [] cut done next [] (w ∷ new) before after h p notes f = absurd h
all_acted Acts to place (link ∷ links) cut done next (v ∷ old) [] before after h p notes f = absurd h
all_acted Acts to place _ cut done next _ _ before after h p notes f = absurd p

pub fixed_set : (vs : List LinkView) (i : ℕ) (old new : LinkView) → slice_get vs i ≡ Some old → fixed_of new ≡ fixed_of old → fixed_in (slice_set vs i new) ≡ fixed_in vs
fixed_set vs i old new at e = map_set fixed_of vs i old new at e

-- an event names a connection of which something is kept
kept_within : (vs : List LinkView) (place : ℕ) → IsSome (slice_get (lengths_kept vs) place) → place < length vs
kept_within [] place h = absurd (cc h)
kept_within (v ∷ vs) zero h = omega arith
kept_within (v ∷ vs) (suc place) h = let within = kept_within vs place h in omega arith

pub kept_number : (vs : List LinkView) (n count : ℕ) → IsSome (lengths_at (lengths_kept vs) n) → count ≡ length vs → IsNumber count n
kept_number vs zero count h e = absurd (cc h)
kept_number vs (suc place) count h e = let within = kept_within vs place h in record { first = omega arith; last = omega arith }

pub kept_placed : (vs : List LinkView) (count n from : ℕ) (v : LinkView) → IsSome (lengths_at (lengths_kept vs) n) → count ≡ length vs → from ≡ n → v ≡ slice_index_or vs (from - 1) v → Placed vs n (from - 1) v
kept_placed vs count n from v has len at read = placed vs count n from v (kept_number vs n count has len) len at read

pub kept_fits : (vs : List LinkView) (n place : ℕ) (v : LinkView) (len : ℕ) → Placed vs n place v → IsSomeAnd (lengths_at (lengths_kept vs) n) (λ ends. len ≡ ends.slave) → len ≡ v.slave.kit.settings.lengths.slave
kept_fits vs n place v len p h =
    let found : lengths_at (lengths_kept vs) n ≡ Some v.slave.kit.settings.lengths =
    ap (lengths_at (lengths_kept vs)) p.number ∙ slice_get-map (λ (z : LinkView). z.slave.kit.settings.lengths) vs place ∙ ap (option_map (λ (z : LinkView). z.slave.kit.settings.lengths)) p.at in
    subst (λ (o : Option Lengths). IsSomeAnd o (λ ends. len ≡ ends.slave)) found h

pub same_count : (xs ys : List LinkView) → fixed_in xs ≡ fixed_in ys → length xs ≡ length ys
same_count xs ys h = same_length fixed_of fixed_of xs ys h

-- a plant's journal is longer, with as many connections of which few entries are noted
pub still_plant : {A : Type 0} (m n : MultiValue A) (vs ws : List LinkView) (dids : List Did) (outs : List (List ℕ)) (len later : ℕ) → IsPlant m vs dids outs len → multi.settings_of n ≡ multi.settings_of m → length ws ≡ length vs → AreNoted (2 * later) ws
    → IsPlant n ws dids outs later
still_plant m n vs ws dids outs len later p same count few = record {
  count = count ∙ p.count ∙ ap length (sym same);
  most = rw count p.most;
  dids_fit = p.dids_fit ∙ sym count;
  outs_fit = p.outs_fit ∙ sym count;
  noted = few;
}

-- so it is where one entry more was noted with a connection, in one step
pub one_noted : {A : Type 0} (m n : MultiValue A) (vs : List LinkView) (dids : List Did) (outs : List (List ℕ)) (len later place : ℕ) (was is : LinkView) → IsPlant m vs dids outs len → multi.settings_of n ≡ multi.settings_of m → slice_get vs place ≡ Some was
    → is.monitor.noted ≤ was.monitor.noted + 1 → later ≡ len + 1 → IsPlant n (slice_set vs place is) dids outs later
one_noted m n vs dids outs len later place was is p same at more step =
    let few = all_at (λ (v : LinkView). v.monitor.noted ≤ 2 * len) vs place was p.noted at in
    let rest = All-weaker (λ (v : LinkView). v.monitor.noted ≤ 2 * len) (λ v. v.monitor.noted ≤ 2 * later) (λ v le. omega arith) vs p.noted in
    still_plant m n vs (slice_set vs place is) dids outs len later p same (length-set vs place is) (All-set (λ (v : LinkView). v.monitor.noted ≤ 2 * later) vs place is (omega arith) rest)

-- there is room for an entry more with a connection
pub few_at : (vs : List LinkView) (len place : ℕ) (v : LinkView) → AreNoted (2 * len) vs → 2 * len + 1 < 2 ^ 64 → slice_get vs place ≡ Some v → v.monitor.noted + 1 < 2 ^ 64
few_at vs len place v few small at =
    let le = all_at (λ (z : LinkView). z.monitor.noted ≤ 2 * len) vs place v few at in
    omega arith
