-- What a monitor with lists has after an entry is what the definitions say of the entries with it, by the newest of
-- listed items.
use Rattle.exchange_model.proofs.Common.{End, Entry, Item, ListView, ListsEntry, Side, answer_among, answer_in, delivered, first_of_both, first_other, is_answer_to, is_empty, is_other_to, item_of, items, items_of, kept_of, last_answer, last_sent, list_after, list_of, listed, listed_next, listing, lists_after, looked_up, newest, newest_answer, next_sent, number_taken, peer, sent_of}
use Rattle.std.proofs.Common.{◌≡◌, ℕ, suc, ◌-◌, List, [], ◌∷◌, ◌++◌, length, map, reverse, Bool, Option, Some, option_map, if◌then◌else◌, refl, ap, ap₂, ◌∙◌, arith, rules}
use Rattle.std.proofs.lemmas.List.{length-append, reverse-append}
use Rattle.std.specs.List.{find, slice_get}
use Rattle.fsoe_base.specs.declared.command.End.TheVariants as end_name
use Rattle.exchange_model.specs.declared.list_monitor.Listed.{Listed}
use Rattle.exchange_model.proofs.Worlds.Numbered.{numbered}

-- one more item
last-of : (found : List Listed) (i : Listed) → slice_get (found ++ (i ∷ [])) (length found) ≡ Some i
last-of [] i = refl
last-of (j ∷ found) i = last-of found i

pub last_sent_more : (found : List Listed) (i : Listed) → last_sent (found ++ (i ∷ [])) ≡ Some i.sent
last_sent_more found i =
    let e : length (found ++ (i ∷ [])) - 1 ≡ length found = omega (arith, length-append found (i ∷ [])) in
    ap (λ n. option_map (λ (i : Listed). i.sent) (slice_get (found ++ (i ∷ [])) n)) e ∙ ap (option_map (λ (i : Listed). i.sent)) (last-of found i)

-- newest first
turned : (found : List Item) → reverse (listed found) ≡ map listing found
turned [] = refl
turned (i ∷ found) = reverse-append (listed found) (listing i ∷ []) ∙ ap (λ l. listing i ∷ l) (turned found)

-- the newest of an end's items
last-is : (found : List Item) → last_sent (listed found) ≡ sent_of (newest found)
last-is found = search (rules, last_sent_more)

-- the newest that answers
found-is : (n : ℕ) (found : List Item) → option_map (λ i. i.sent) (find (is_answer_to n) (map listing found)) ≡ sent_of (newest_answer n found)
found-is n [] = refl
found-is n (i ∷ found) =
    grind (arith, found-is n found)

answer-is : (n : ℕ) (found : List Item) → last_answer n (listed found) ≡ sent_of (newest_answer n found)
answer-is n found = ap (λ l. option_map (λ i. i.sent) (find (is_answer_to n) l)) (turned found) ∙ found-is n found

answer-in : (found : List Item) (o : Option Item) → answer_in (listed found) (sent_of o) ≡ sent_of (answer_among found o)
answer-in found o = search (rules, answer-is)

-- the lists hold what a monitor keeps
looked-up-is : (which : End) (w : List Entry) → looked_up which (list_of w) ≡ kept_of which (items w)
looked-up-is which w = search (rules, newest, last-is, listed, answer-in)

listing-is : (which : End) (x : Entry) (w : List Entry) → x.end ≡ which
    → (let l : Listed = record { sent = next_sent (kept_of which (items w)).newest x.sent; answers = number_taken (kept_of which (items w)) (kept_of (peer which) (items w)) (delivered x.what) x.did.took } in l) ≡ listing (item_of x w (items w))
listing-is which x w h = search (rules, numbered)

mine-by : (which : End) (x : Entry) (w : List Entry) (none : Bool) → x.end ≡ which
    → (if none then listed (items_of which (items w)) else listed (items_of which (items w)) ++ (record { sent = next_sent (kept_of which (items w)).newest x.sent; answers = number_taken (kept_of which (items w)) (kept_of (peer which) (items w)) (delivered x.what) x.did.took } ∷ []))
    ≡ listed (items_of which (if none then items w else item_of x w (items w) ∷ items w))
mine-by which x w none h = search (rules, listing-is)

theirs-by : (which : End) (x : Entry) (w : List Entry) (none : Bool) → x.end ≡ which → listed (items_of (peer which) (items w)) ≡ listed (items_of (peer which) (if none then items w else item_of x w (items w) ∷ items w))
theirs-by which x w none h = grind arith

mine-is : (which : End) (x : Entry) (w : List Entry) → x.end ≡ which
    → list_after (looked_up which (list_of w)) (looked_up (peer which) (list_of w)) x (listed (items_of which (items w))) ≡ listed (items_of which (items (x ∷ w)))
mine-is which x w h =
    ap₂ (λ (own other_side : Side). list_after own other_side x (listed (items_of which (items w)))) (looked-up-is which w) (looked-up-is (peer which) w) ∙ mine-by which x w (is_empty x.sent) h

other-in : (which : End) (x : Entry) (w : List Entry) → x.end ≡ which → first_of_both (first_other w) (is_other_to (looked_up which (list_of w)) x.did.passed (delivered x.what)) (suc (length w)) ≡ first_other (x ∷ w)
other-in which x w h = search (rules, looked-up-is)

next-is : (which : End) (x : Entry) (w : List Entry) → x.end ≡ which
    → (record (lists_after which (list_of w) x) { noted = suc (length w); other = first_of_both (first_other w) (is_other_to (looked_up which (list_of w)) x.did.passed (delivered x.what)) (suc (length w)) }) ≡ list_of (x ∷ w)
next-is end_name.Master x w h =
    let o = other-in end_name.Master x w h in
    let m = mine-is end_name.Master x w h in
    let s = theirs-by end_name.Master x w (is_empty x.sent) h in
    cc
next-is end_name.Slave x w h =
    let o = other-in end_name.Slave x w h in
    let m = theirs-by end_name.Slave x w (is_empty x.sent) h in
    let s = mine-is end_name.Slave x w h in
    cc

-- a monitor that steps so lists the entry
pub lists_by : {old new : ListView} {x : Entry} → new ≡ listed_next old x → ListsEntry old x new
lists_by {old} {new} {x} h = record { lists = λ w is. h ∙ (ap (λ (v : ListView). listed_next v x) is ∙ next-is x.end x w refl) }
