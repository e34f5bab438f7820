-- The entry that sent an awaited item: the end that awaits it sent nothing since.
use Rattle.exchange_model.proofs.Common.{Deed, End, Entry, Item, Setup, Took, answer_among, awaited, deed_in, deeds, delivered, is_empty, item_of, item_taken, items, items_of, newest, newest_answer, number_if, peer, same_end, ticked, ticks, ticks_of}
use Rattle.std.proofs.Common.{◌≡◌, ℕ, ◌≤◌, List, [], ◌∷◌, ◌++◌, length, Bool, true, false, Option, Some, if◌then◌else◌, refl, ap, sym, subst, ◌∙◌, arith, rules}
use Rattle.exchange_model.proofs.Worlds.Projection.{same}
use Rattle.exchange_model.proofs.Worlds.Numbered.{Numbered, Grown, numbered, grown}
use Rattle.exchange_model.proofs.Joint.Awaited.{Found, awaited_found}

-- the entry of an end that sent an item
pub record SentItem (who : End) (j : Item) (w : List Entry) : Type 0 where
  pub later : List Entry
  pub sending : Entry
  pub before : List Entry
  pub parts_are : w ≡ later ++ (sending ∷ before)
  pub by_end : sending.end ≡ who
  pub is_item : item_of sending before (items before) ≡ j

one-later : (who : End) (j : Item) (x : Entry) (w : List Entry) → SentItem who j w → SentItem who j (x ∷ w)
one-later who j x w s =
    record { later = x ∷ s.later; sending = s.sending; before = s.before; parts_are = ap (λ (w : List Entry). x ∷ w) s.parts_are; by_end = s.by_end; is_item = s.is_item }

sent-now : (k : ℕ) (who : End) (j : Item) (x : Entry) (w : List Entry) (it : Bool) → same_end who x.end ≡ true → (newest_answer k (items_of who (items w)) ≡ Some j → SentItem who j w)
    → (if it then Some (item_of x w (items w)) else newest_answer k (items_of who (items w))) ≡ Some j → SentItem who j (x ∷ w)
sent-now k who j x w true mine earlier h =
    let q : item_of x w (items w) ≡ j = cc in
    record { later = []; sending = x; before = w; parts_are = refl; by_end = same who x.end mine; is_item = q }
sent-now k who j x w false mine earlier h = one-later who j x w (earlier h)

sent-head : (k : ℕ) (who : End) (j : Item) (x : Entry) (w : List Entry) (none : Bool) → (newest_answer k (items_of who (items w)) ≡ Some j → SentItem who j w)
    → newest_answer k (items_of who (if none then items w else item_of x w (items w) ∷ items w)) ≡ Some j → SentItem who j (x ∷ w)
sent-head k who j x w none h l = search (rules, one-later, sent-now)

-- the entry that sent an item which answers another one
pub sent-item : (k : ℕ) (who : End) (j : Item) (w : List Entry) → newest_answer k (items_of who (items w)) ≡ Some j → SentItem who j w
sent-item k who j [] h = cc
sent-item k who j (x ∷ w) h = sent-head k who j x w (is_empty x.sent) (λ e. sent-item k who j w e) h

pub sent-answer : (who : End) (j : Item) (w : List Entry) (mine : List Item) → answer_among (items_of who (items w)) (newest mine) ≡ Some j → SentItem who j w
sent-answer who j w mine h = search (rules, sent-item)

number-within : (bytes : List ℕ) (count k : ℕ) (o : Option Item) → ((i : Item) → o ≡ Some i → i.number ≤ count) → number_if bytes o ≡ Some k → k ≤ count
number-within bytes count k o h l = grind arith

pub newest-within : (theirs : List Item) (i : Item) → Numbered theirs → newest theirs ≡ Some i → i.number ≤ length theirs
newest-within theirs i h k = grind arith

awaited-within : (who : End) (w : List Entry) (i : Item) → awaited (items w) who ≡ Some i → i.number ≤ length (items_of (peer who) (items w))
awaited-within who w i h =
    let f : Found (length (items_of who (items w))) (items_of (peer who) (items w)) i = awaited_found (items_of who (items w)) (items_of (peer who) (items w)) i (numbered who w) (numbered (peer who) w) h in
    f.within

-- an item answers one that its peer had sent before
answered-within : (who : End) (bytes : List ℕ) (took : Option Took) (w : List Entry) (k : ℕ) → item_taken (items w) who bytes took ≡ Some k → k ≤ length (items_of (peer who) (items w))
answered-within who bytes took w k h = search (rules, number-within, awaited-within, newest, newest-within, numbered)

pub grown-length : (old more : List Item) → Grown old more → length old ≤ length more
grown-length old more h = grind arith

-- the items of an end grow
older-items : (which : End) (later w : List Entry) → length (items_of which (items w)) ≤ length (items_of which (items (later ++ w)))
older-items which [] w = omega arith
older-items which (x ∷ later) w = omega (arith, older-items which later w, grown-length _ _ (grown which x (later ++ w)))

-- an end had no more items before an item was sent
pub older-than : (which who : End) (j : Item) (w : List Entry) (at : SentItem who j w) → length (items_of which (items at.before)) ≤ length (items_of which (items w))
older-than which who j w at =
    let a = grown-length _ _ (grown which at.sending at.before) in
    let b = older-items which at.later (at.sending ∷ at.before) in
    let c : length (items_of which (items w)) ≡ length (items_of which (items (at.later ++ (at.sending ∷ at.before)))) = ap (λ (v : List Entry). length (items_of which (items v))) at.parts_are in
    omega arith

-- no item more, no frame sent
sends-none : (which : End) (x : Entry) (later w : List Entry) (none : Bool) → same_end which x.end ≡ true → is_empty x.sent ≡ none
    → length (items_of which (items (x ∷ (later ++ w)))) ≤ length (items_of which (items w)) → none ≡ true
sends-none which x later w none h k l = search (rules, older-items)

pub ticks-head : (s : Setup) (x : Entry) (e : List Deed) (a : ℕ) (mine : Bool) → (mine ≡ true → is_empty x.sent ≡ true) → a ≤ ticks s e
    → (if mine then ticked x.what a else a) ≤ ticks s (if mine then deed_in x ∷ e else e)
ticks-head s x e a mine h k = grind arith

-- an end that sent nothing since counted the ticks since
ticks-since : (s : Setup) (which : End) (later w : List Entry) → length (items_of which (items (later ++ w))) ≤ length (items_of which (items w)) → ticks_of which later ≤ ticks s (deeds which (later ++ w))
ticks-since s which [] w h = omega arith
ticks-since s which (x ∷ later) w h =
    let b : length (items_of which (items (later ++ w))) ≤ length (items_of which (items (x ∷ (later ++ w)))) = grown-length _ _ (grown which x (later ++ w)) in
    ticks-head s x (deeds which (later ++ w)) (ticks_of which later) (same_end which x.end) (λ mine. sends-none which x later w (is_empty x.sent) mine refl h)
    (ticks-since s which later w (omega arith))

pub peer-back : (which : End) → peer (peer which) ≡ which
peer-back which = grind arith

-- the entry that sent an awaited item, and the ticks that its awaiter counted since
pub record SentLately (s : Setup) (which : End) (j : Item) (w : List Entry) : Type 0 where
  pub at : SentItem (peer which) j w
  pub counted : ticks_of which at.later ≤ ticks s (deeds which w)

-- an item was sent after the one that it answers
pub answered-before : (which : End) (n : ℕ) (j : Item) (w : List Entry) → j.answers ≡ Some n → (at : SentItem (peer which) j w) → n ≤ length (items_of which (items at.before))
answered-before which n j w h at =
    let k = answered-within at.sending.end (delivered at.sending.what) at.sending.did.took at.before n (ap (λ (i : Item). i.answers) at.is_item ∙ h) in
    subst (λ (it : End). n ≤ length (items_of it (items at.before))) (ap peer at.by_end ∙ peer-back which) k

pub sent_lately : (s : Setup) (which : End) (j : Item) (w : List Entry) → awaited (items w) which ≡ Some j → SentLately s which j w
sent_lately s which j w h =
    let at : SentItem (peer which) j w = sent-answer (peer which) j w (items_of which (items w)) h in
    let f : Found (length (items_of which (items w))) (items_of (peer which) (items w)) j = awaited_found (items_of which (items w)) (items_of (peer which) (items w)) j (numbered which w) (numbered (peer which) w) h in
    let a : length (items_of which (items w)) ≤ length (items_of which (items at.before)) = answered-before which (length (items_of which (items w))) j w f.answers at in
    let b : length (items_of which (items at.before)) ≤ length (items_of which (items (at.sending ∷ at.before))) = grown-length _ _ (grown which at.sending at.before) in
    let c : length (items_of which (items w)) ≡ length (items_of which (items (at.later ++ (at.sending ∷ at.before)))) = ap (λ (v : List Entry). length (items_of which (items v))) at.parts_are in
    record {
      at = at;
      counted = subst (λ (v : List Entry). ticks_of which at.later ≤ ticks s (deeds which v)) (sym at.parts_are) (ticks-since s which at.later (at.sending ∷ at.before) (omega arith));
    }
