-- The ticks since the item that an end awaits was sent.
use Rattle.reaction_bound.proofs.Common.{End, Entry, Item, Move, Side, awaited, awaited_by, counted, delivered, eq-eqb, heard_next, is_answer, is_empty, is_tick, item_number, items, items_of, next_number, next_sent, peer, same, same_end, sends_item, sent_next, sent_number, ticked, ticks_since, told_ticks, waited, waited_next}
use Rattle.exchange_model.proofs.Offering.Sending.{grown-length, peer-back}
use Rattle.std.proofs.Common.{◌≡◌, ℕ, suc, ◌≤◌, ◌==◌, List, ◌∷◌, length, Bool, true, false, ◌&&◌, not, Option, Some, None, if◌then◌else◌, refl, sym, ap, ◌∙◌, subst, arith, rules}
use Rattle.fsoe_base.specs.declared.command.Command.TheVariants as command
use Rattle.end_model.specs.Phases.{has_command}
use Rattle.exchange_model.specs.Monitor as monitor
use Rattle.exchange_model.specs.Monitor.{peer_after}
use Rattle.exchange_model.proofs.Worlds.Numbered.{grown, numbered}
use Rattle.exchange_model.proofs.Joint.Awaited.{awaited_found}
use Rattle.exchange_model.proofs.Monitors.Noted.{newest_next, own_kept, peer_kept}
use Rattle.exchange_model.proofs.Offering.Offered.{same_itself}

-- an item with a number
record HasNumber (k : ℕ) (o : Option Item) : Type 0 where
  pub item : Item
  pub is : o ≡ Some item
  pub number_is : item.number ≡ k

number-found : (o : Option Item) (k : ℕ) → item_number o ≡ Some k → HasNumber k o
number-found o k h = grind arith

-- the number of an awaited item is one of those of the peer's items
pub awaited_within : (which : End) (w : List Entry) (k : ℕ) → awaited_by which w ≡ Some k → k ≤ length (items_of (peer which) (items w))
awaited_within which w k h =
    let it : HasNumber k (awaited (items w) which) = number-found (awaited (items w) which) k h in
    let f = awaited_found (items_of which (items w)) (items_of (peer which) (items w)) it.item (numbered which w) (numbered (peer which) w) it.is in
    subst (λ (k : ℕ). k ≤ length (items_of (peer which) (items w))) it.number_is f.within

-- an end has no fewer items after an entry
pub items_grow : (which : End) (x : Entry) (w : List Entry) → length (items_of which (items w)) ≤ length (items_of which (items (x ∷ w)))
items_grow which x w = grown-length _ _ (grown which x w)

-- the ticks since an item that was sent before an entry
pub since_next : (which : End) (k : ℕ) (x : Entry) (w : List Entry) (mine : Bool) → same_end which x.end ≡ mine → k ≤ length (items_of (peer which) (items w))
    → ticks_since which k (x ∷ w) ≡ (if mine then ticked x.what (ticks_since which k w) else ticks_since which k w)
since_next which k x w mine h l = search rules

-- what an entry does to the item that an end awaits: it is the same one, and the end sent nothing; it is none; or it is
-- the item that its peer sends in the entry
pub data Next (which : End) (x : Entry) (w : List Entry) : Type 0 where
  Kept : awaited_by which (x ∷ w) ≡ awaited_by which w → (same_end which x.end ≡ true → is_empty x.sent ≡ true) → Next which x w
  Gone : awaited_by which (x ∷ w) ≡ None → Next which x w
  Fresh : (k : ℕ) → awaited_by which (x ∷ w) ≡ Some k → sends_item (peer which) k x w ≡ true → Next which x w

own-next : (which : End) (x : Entry) (w : List Entry) (own : Side) (none : Bool) → is_empty x.sent ≡ none → sent_number own.awaited ≡ awaited_by which w
    → sent_number (if none then own else sent_next own x.sent).awaited ≡ awaited_by which (x ∷ w) → Next which x w
own-next which x w own none h k l = grind arith

all-true : (a b : Bool) (m n : ℕ) → a ≡ true → b ≡ false → m ≡ n → (a && not b && m == n) ≡ true
all-true a b m n h k e = let q : (m == n) ≡ true = eq-eqb m n e in simp (h, k, q)

peer-heard : (which : End) (x : Entry) (w : List Entry) (theirs mine : Side) (answered : Bool) → same_end which x.end ≡ false → sends_item (peer which) (next_number theirs.newest) x w ≡ true → sent_number mine.awaited ≡ awaited_by which w
    → sent_number (if answered then Some (next_sent theirs.newest x.sent) else mine.awaited) ≡ awaited_by which (x ∷ w) → Next which x w
peer-heard which x w theirs mine true a s h k = Fresh (next_number theirs.newest) (sym k) s
peer-heard which x w theirs mine false a s h k = Kept (sym k ∙ h) (λ b. cc)

peer-next : (which : End) (x : Entry) (w : List Entry) (theirs mine : Side) (answer : Option ℕ) (none : Bool) → same_end which x.end ≡ false → is_empty x.sent ≡ none → same_end (peer which) x.end ≡ true
    → next_number theirs.newest ≡ suc (length (items_of (peer which) (items w))) → sent_number mine.awaited ≡ awaited_by which w
    → sent_number (if none then mine else heard_next theirs mine x.sent answer).awaited ≡ awaited_by which (x ∷ w) → Next which x w
peer-next which x w theirs mine answer true a e s n h k = Kept (sym k ∙ h) (λ b. cc)
peer-next which x w theirs mine answer false a e s n h k =
    peer-heard which x w theirs mine (not (has_command command.Reset x.sent) && is_answer mine.newest answer) a (all-true (same_end (peer which) x.end) (is_empty x.sent) _ _ s e n) h k

-- what a monitor keeps of the end awaits the same item
awaits : (which : End) (w : List Entry) (kept : Side) → kept ≡ monitor.kept_of which (items w) → sent_number kept.awaited ≡ awaited_by which w
awaits which w kept h = grind arith

its-peer : (which at : End) → same_end which at ≡ false → at ≡ peer which
its-peer which at h = grind arith

pub next : (which : End) (x : Entry) (w : List Entry) → Next which x w
next which x w = by-end (same_end which x.end) refl
  where
    mine : Side
    mine = monitor.kept_of which (items w)

    by-end : (own : Bool) → same_end which x.end ≡ own → Next which x w
    by-end true e = own-next which x w mine (is_empty x.sent) refl (awaits which w mine refl) (awaits which (x ∷ w) _ (own_kept which x w (same which x.end e)))
    by-end false e =
        let at : x.end ≡ peer which = its-peer which x.end e in
        let back : peer (peer which) ≡ which = peer-back which in
        peer-next which x w (monitor.kept_of (peer which) (items w)) mine _ (is_empty x.sent) e refl (ap (same_end (peer which)) at ∙ same_itself (peer which))
        (newest_next (items_of (peer which) (items w)) (numbered (peer which) w)) (awaits which w mine refl)
        (awaits which (x ∷ w) _ (subst (λ (it : End). peer_after (monitor.kept_of (peer which) (items w)) (monitor.kept_of it (items w)) (delivered x.what) x.did.took x.sent ≡ monitor.kept_of it (items (x ∷ w))) back (peer_kept (peer which) x w at)))

-- ticks that were counted, after an entry of the end or of its peer
abbrev pub counted_at : Bool → Move → ℕ → ℕ
counted_at mine m n = if mine then counted (is_tick m) n else n

-- the ticks since an item that was sent before an entry, as they are told
pub told_since : (which : End) (k : ℕ) (x : Entry) (w : List Entry) (mine : Bool) → same_end which x.end ≡ mine → k ≤ length (items_of (peer which) (items w))
    → told_ticks (ticks_since which k (x ∷ w)) ≡ counted_at mine x.what (told_ticks (ticks_since which k w))
told_since which k x w mine h l = search (rules, told_ticks, since_next, ticks_since)

none-after : (before : Option ℕ) (n : ℕ) → waited_next before None n ≡ 0
none-after before n = grind arith

kept-after : (which : End) (x : Entry) (w : List Entry) (mine : Bool) (before : Option ℕ) → same_end which x.end ≡ mine → awaited_by which w ≡ before
    → waited which (x ∷ w) before ≡ waited_next before before (counted_at mine x.what (waited which w before))
kept-after which x w mine before h k = search (rules, awaited_within)

pub fresh_now : (which : End) (k : ℕ) (x : Entry) (w : List Entry) → sends_item (peer which) k x w ≡ true → ticks_since which k (x ∷ w) ≡ 0
fresh_now which k x w s = ap (λ (b : Bool). if b then 0 else if same_end which x.end then ticked x.what (ticks_since which k w) else ticks_since which k w) s

fresh-after : (which : End) (k : ℕ) (x : Entry) (w : List Entry) (before : Option ℕ) (n : ℕ) → sends_item (peer which) k x w ≡ true → awaited_by which w ≡ before
    → waited_next before (Some k) n ≡ 0
fresh-after which k x w before n h l = search (rules, awaited_within)

-- the ticks since the item that an end awaits was sent, after an entry
pub waited_step : (which : End) (x : Entry) (w : List Entry) (mine : Bool) → same_end which x.end ≡ mine
    → waited which (x ∷ w) (awaited_by which (x ∷ w)) ≡ waited_next (awaited_by which w) (awaited_by which (x ∷ w)) (counted_at mine x.what (waited which w (awaited_by which w)))
waited_step which x w mine h = search (rules, none-after, kept-after, told_ticks, fresh_now, fresh-after, next)
