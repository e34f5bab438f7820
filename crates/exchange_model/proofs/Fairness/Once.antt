-- No awaited item gives data twice: an end that takes data sends a frame, so that the next item it awaits answers a
-- newer one.
use Rattle.exchange_model.proofs.Common.{AllByRecursion, Deed, Did, End, Entry, IsWorld, Item, MasterSettings, Move, Reaction, Setup, SlaveSettings, Took, answer_among, answer_sent, awaited, data_taken, deeds, is_empty, item_of, items, items_of, newest, numbers_taken, peer, same_end, setup_of, with_number}
use Rattle.std.proofs.Common.{◌≡◌, ℕ, suc, ◌<◌, ◌≤◌, nat_eq, List, [], ◌∷◌, length, Bool, true, false, ◌&&◌, Option, Some, None, is_some, if◌then◌else◌, refl, ap, subst, sym, ◌∙◌, eqb-true, arith, rules}
use Rattle.std.specs.List.{IsDistinct}
use Rattle.exchange_model.proofs.Worlds.Projection.{entry_reacted}
use Rattle.exchange_model.proofs.Worlds.Numbered.{Numbered, Grown, Same, More, next_number, grown}
use Rattle.exchange_model.proofs.Joint.Awaited.{Found, awaited_found, up_to}
use Rattle.exchange_model.proofs.Joint.Joint.{newest_answers}

-- the item with this number answered an item before the next of this many
record Used (count : ℕ) (theirs : List Item) (n : ℕ) : Type 0 where
  pub within : n ≤ length theirs
  pub at : ℕ
  pub answered : newest_answers (up_to n theirs) ≡ Some at
  pub earlier : at < count

used-more : (count n : ℕ) (i : Item) (theirs : List Item) → i.number ≡ suc (length theirs) → Used count theirs n → Used count (i ∷ theirs) n
used-more count n i theirs h k = grind arith

used-later : (count more n : ℕ) (theirs : List Item) → count ≤ more → Used count theirs n → Used more theirs n
used-later count more n theirs h u = record { within = u.within; at = u.at; answered = u.answered; earlier = let k : u.at < count = u.earlier in omega arith }

weaker : {P Q : ℕ → Type 0} → ((n : ℕ) → P n → Q n) → (ns : List ℕ) → AllByRecursion P ns → AllByRecursion Q ns
weaker f [] all = tt
weaker f (n ∷ ns) all = (f n all.0, weaker f ns all.1)

-- numbers taken before are older
apart : (count n : ℕ) (ns : List ℕ) (theirs : List Item) → newest_answers (up_to n theirs) ≡ Some count → AllByRecursion (Used count theirs) ns → AllByRecursion (λ m. nat_eq n m ≡ false) ns
apart count n [] theirs h all = tt
apart count n (m ∷ ns) theirs h all = (differ (nat_eq n m) refl, apart count n ns theirs h all.1)
  where
    differ : (b : Bool) → nat_eq n m ≡ b → b ≡ false
    differ false is = refl
    differ true is =
        let it : n ≡ m = eqb-true n m is in
        let at : Some count ≡ Some all.0.at = sym h ∙ (ap (λ (n : ℕ). newest_answers (up_to n theirs)) it ∙ all.0.answered) in
        let same_place : count ≡ all.0.at = cc in
        let before : all.0.at < count = all.0.earlier in
        absurd (omega arith)

-- what is known of the numbers taken so far
record Once (mine theirs : List Item) (ns : List ℕ) : Type 0 where
  pub numbered : Numbered mine
  pub others : Numbered theirs
  pub used : AllByRecursion (Used (length mine) theirs) ns
  pub differ : IsDistinct nat_eq ns

once-mine : (mine more theirs : List Item) (ns : List ℕ) → Grown mine more → Once mine theirs ns → Once more theirs ns
once-mine mine more theirs ns (Same e) o = subst (λ (m : List Item). Once m theirs ns) (sym e) o
once-mine mine more theirs ns (More i e h) o =
    subst (λ (m : List Item). Once m theirs ns) (sym e)
    (record { numbered = (h, o.numbered); others = o.others; used = weaker (λ n. used-later (length mine) (suc (length mine)) n theirs (omega arith)) ns o.used; differ = o.differ })

once-theirs : (mine theirs more : List Item) (ns : List ℕ) → Grown theirs more → Once mine theirs ns → Once mine more ns
once-theirs mine theirs more ns (Same e) o = subst (λ (t : List Item). Once mine t ns) (sym e) o
once-theirs mine theirs more ns (More i e h) o =
    subst (λ (t : List Item). Once mine t ns) (sym e)
    (record { numbered = o.numbered; others = (h, o.others); used = weaker (λ n. used-more (length mine) n i theirs h) ns o.used; differ = o.differ })

-- data are taken, and a new item is sent
once-taken : (mine theirs : List Item) (ns : List ℕ) (j i : Item) → answer_among theirs (newest mine) ≡ Some j → i.number ≡ suc (length mine) → Once mine theirs ns
    → Once (i ∷ mine) theirs (j.number ∷ ns)
unfolding IsDistinct
once-taken mine theirs ns j i h next o =
    let f : Found (length mine) theirs j = awaited_found mine theirs j o.numbered o.others h in
    let answered : newest_answers (up_to j.number theirs) ≡ Some (length mine) = ap newest_answers f.is ∙ f.answers in
    record {
      numbered = (next, o.numbered);
      others = o.others;
      used = (
        record { within = f.within; at = length mine; answered = answered; earlier = omega arith },
        weaker (λ n. used-later (length mine) (suc (length mine)) n theirs (omega arith)) ns o.used,
      );
      differ = (apart (length mine) j.number ns theirs answered o.used, o.differ);
    }

-- a deed that took a frame sent one
sends : (s : Setup) (e : List Deed) (m : Move) (d : Did) (f : List ℕ) → Reaction s e m d f → is_some d.took ≡ true → is_empty f ≡ false
sends s e m d f h k = search (rules, answer_sent)

took-some : (t : Option Took) → is_some (data_taken t) ≡ true → is_some t ≡ true
took-some t h = grind arith

once-awaited : (which : End) (x : Entry) (w : List Entry) (ns : List ℕ) (o : Option Item) → awaited (items w) which ≡ o → same_end which x.end ≡ true → is_empty x.sent ≡ false
    → Once (items_of which (items w)) (items_of (peer which) (items w)) ns
    → Once (items_of which (items (x ∷ w))) (items_of (peer which) (items (x ∷ w))) (with_number o ns)
once-awaited which x w ns None h k l so_far =
    once-theirs _ _ _ ns (grown (peer which) x w) (once-mine _ _ _ ns (grown which x w) so_far)
once-awaited which x w ns (Some j) h k l so_far =
    let i : Item = item_of x w (items w) in
    let mine : List Item = items_of which (items w) in
    let theirs : List Item = items_of (peer which) (items w) in
    once-theirs _ theirs _ (j.number ∷ ns) (grown (peer which) x w)
    (subst (λ (m : List Item). Once m theirs (j.number ∷ ns)) (sym (simp (k, l))) (once-taken mine theirs ns j i h (next_number which x w k) so_far))

once-next : (which : End) (x : Entry) (w : List Entry) (ns : List ℕ) (mine takes_some : Bool) → same_end which x.end ≡ mine → is_some (data_taken x.did.took) ≡ takes_some → (is_some x.did.took ≡ true → is_empty x.sent ≡ false)
    → Once (items_of which (items w)) (items_of (peer which) (items w)) ns
    → Once (items_of which (items (x ∷ w))) (items_of (peer which) (items (x ∷ w))) (if mine && takes_some then with_number (awaited (items w) which) ns else ns)
once-next which x w ns true true h k sending so_far = once-awaited which x w ns (awaited (items w) which) refl h (sending (took-some x.did.took k)) so_far
once-next which x w ns _ _ h k sending so_far = once-theirs _ _ _ ns (grown (peer which) x w) (once-mine _ _ _ ns (grown which x w) so_far)

once : (ms : MasterSettings) (ss : SlaveSettings) (which : End) (w : List Entry) → IsWorld ms ss w → Once (items_of which (items w)) (items_of (peer which) (items w)) (numbers_taken which w)
unfolding IsDistinct
once ms ss which [] h = record { numbered = tt; others = tt; used = tt; differ = tt }
once ms ss which (x ∷ w) h =
    once-next which x w (numbers_taken which w) (same_end which x.end) (is_some (data_taken x.did.took)) refl refl
    (sends (setup_of ms ss x.end) (deeds x.end w) x.what x.did x.sent (entry_reacted ms ss x w h)) (once ms ss which w h.1)

-- no awaited item gives data twice
pub at_most_once : (ms : MasterSettings) (ss : SlaveSettings) (which : End) (w : List Entry) → IsWorld ms ss w → IsDistinct nat_eq (numbers_taken which w)
at_most_once ms ss which w h =
    let o : Once (items_of which (items w)) (items_of (peer which) (items w)) (numbers_taken which w) = once ms ss which w h in
    o.differ
