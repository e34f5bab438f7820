-- No event of a number names a frame that wasn't sent, so each has its entry.
use Rattle.duo_run.proofs.Common.{End, Entry, Event, Move, altered, altered_delivery, deeds, delivery, end_of_event, bulk_entries, entry_at, entry_on, event_at, event_by, frames_of, is_switch_on, load_of, made, made_master, made_slave, mask_of, move_from, next_entry, peer, altered_place, setup_of, word_after, world_next}
use Rattle.std.proofs.Common.{◌≡◌, ℕ, zero, suc, ◌-◌, ◌≤◌, ◌/◌, ◌%◌, ◌^◌, List, [], ◌∷◌, length, Bool, if◌then◌else◌, Some, refl, sym, ap, ◌∙◌, length-append, arith, rules}
use Rattle.fsoe_base.specs.declared.command.End.TheVariants as end_name
use Rattle.fsoe_crc.specs.Remainder.{computing}
use Rattle.param_load.specs.declared.entry.Move.TheVariants as move
use Rattle.schedule_file.specs.declared.event.Event.TheVariants as event
use Rattle.duo_run.proofs.Pairs.Ticking.{found_at}

-- both ends sent two frames
pub record SentTwo (w : List Entry) : Type 0 where
  pub master : 2 ≤ length (frames_of end_name.Master w)
  pub slave : 2 ≤ length (frames_of end_name.Slave w)

-- an event has an entry
pub record Goes (w : List Entry) (event : Event) : Type 0 where
  pub entry : Entry
  pub next : entry_at made_master made_slave w event ≡ Some entry

goes_by : (w : List Entry) (event : Event) (what : Move) → move_from (frames_of (peer (end_of_event event)) w) event ≡ Some what → Goes w event
goes_by w event what is = record {
  entry = next_entry (setup_of made_master made_slave (end_of_event event)) (deeds (end_of_event event) w) what;
  next = ap (entry_on (setup_of made_master made_slave (end_of_event event)) (deeds (end_of_event event) w)) is;
}

-- a frame that its peer sent comes to an end
last_goes : (w : List Entry) (to : End) → 1 ≤ length (frames_of (peer to) w) → Goes w (event.Deliver to 1)
last_goes w to one = let f = found_at (frames_of (peer to) w) 0 (omega (arith, one)) in goes_by w (event.Deliver to 1) (move.Deliver f.0) (ap delivery f.1)

sent_to : (w : List Entry) (to : End) → SentTwo w → 2 ≤ length (frames_of (peer to) w)
sent_to w to h = grind arith

deliver_goes : (w : List Entry) (to : End) → SentTwo w → Goes w (event.Deliver to 1)
deliver_goes w to two = last_goes w to (omega (arith, sent_to w to two))

older_goes : (w : List Entry) (to : End) → SentTwo w → Goes w (event.Deliver to 2)
older_goes w to two =
    let f = found_at (frames_of (peer to) w) 1 (omega (arith, sent_to w to two)) in
    goes_by w (event.Deliver to 2) (move.Deliver f.0) (ap delivery f.1)

altered_goes : (w : List Entry) (to : End) (pos mask : ℕ) → SentTwo w → Goes w (event.Altered to 1 pos mask)
altered_goes w to pos mask two =
    let f = found_at (frames_of (peer to) w) 0 (omega (arith, sent_to w to two)) in
    goes_by w (event.Altered to 1 pos mask) (move.Deliver (altered pos mask f.0)) (ap (altered_delivery pos mask) f.1)

choose : (w : List Entry) (test : Bool) (x y : Event) → Goes w x → Goes w y → Goes w (if test then x else y)
choose w test x y h k = grind arith

-- the event of a word
word_goes : (w : List Entry) (rest word : ℕ) → SentTwo w → Goes w (event_by rest word)
word_goes w rest word two =
    choose w _ _ _ (deliver_goes w end_name.Slave two)
    (choose w _ _ _ (deliver_goes w end_name.Master two)
    (choose w _ _ _ (goes_by w (event.Tick end_name.Master) move.Tick refl)
    (choose w _ _ _ (goes_by w (event.Tick end_name.Slave) move.Tick refl)
    (choose w _ _ _ (older_goes w end_name.Slave two)
    (choose w _ _ _ (older_goes w end_name.Master two)
    (choose w _ _ _ (altered_goes w end_name.Slave (altered_place word) (mask_of word) two)
    (choose w _ _ _ (altered_goes w end_name.Master (altered_place word) (mask_of word) two)
    (choose w _ _ _ (goes_by w (event.Put end_name.Master (load_of word)) (move.Put (load_of word)) refl)
    (choose w _ _ _ (goes_by w (event.Put end_name.Slave (load_of word)) (move.Put (load_of word)) refl)
    (choose w _ _ _ (goes_by w (event.Hold end_name.Master (is_switch_on word)) (move.Hold (is_switch_on word)) refl)
    (choose w _ _ _ (goes_by w (event.Hold end_name.Slave (is_switch_on word)) (move.Hold (is_switch_on word)) refl)
    (choose w _ _ _ (goes_by w (event.Nonce end_name.Master (word / 2 ^ 16)) (move.Nonce (word / 2 ^ 16)) refl)
    (goes_by w (event.Local (if is_switch_on word then end_name.Slave else end_name.Master)) move.Local refl)))))))))))))

-- each event, once both ends sent two frames
later_goes : (number place : ℕ) (w : List Entry) → SentTwo w → Goes w (event_at number place)
later_goes number place w two =
    choose w _ _ _
    (choose w _ _ _ (goes_by w (event.Tick end_name.Master) move.Tick refl) (choose w _ _ _ (deliver_goes w end_name.Slave two) (deliver_goes w end_name.Master two)))
    (word_goes w (word_after number (place - 5) % 64) (word_after number (place - 5)) two)

-- the first four events, after which both ends sent two frames
second_goes : (number : ℕ) → Goes (bulk_entries number 1) (event_at number 2)
unfolding computing
second_goes number =
    let one : length (frames_of end_name.Master (bulk_entries number 1)) ≡ 1 = refl in
    last_goes (bulk_entries number 1) end_name.Slave (omega (arith, one))

third_goes : (number : ℕ) → Goes (bulk_entries number 2) (event_at number 3)
unfolding computing
third_goes number =
    let one : length (frames_of end_name.Slave (bulk_entries number 2)) ≡ 1 = refl in
    last_goes (bulk_entries number 2) end_name.Master (omega (arith, one))

fourth_goes : (number : ℕ) → Goes (bulk_entries number 3) (event_at number 4)
unfolding computing
fourth_goes number =
    let two : length (frames_of end_name.Master (bulk_entries number 3)) ≡ 2 = refl in
    last_goes (bulk_entries number 3) end_name.Slave (omega (arith, two))

next_goes : (number count : ℕ) → (4 ≤ count → SentTwo (bulk_entries number count)) → Goes (bulk_entries number count) (event_at number (suc count))
next_goes number zero two = goes_by [] (event.Tick end_name.Master) move.Tick refl
next_goes number (suc zero) two = second_goes number
next_goes number (suc (suc zero)) two = third_goes number
next_goes number (suc (suc (suc zero))) two = fourth_goes number
next_goes number (suc (suc (suc (suc count)))) two = later_goes number (suc (suc (suc (suc (suc count))))) _ (two (omega arith))

two_more : (number count : ℕ) (x : Entry) → (4 ≤ count → SentTwo (bulk_entries number count)) → bulk_entries number (suc count) ≡ x ∷ bulk_entries number count
    → 4 ≤ suc count → SentTwo (bulk_entries number (suc count))
two_more number count x h k l = search rules

-- so many events are made
length-made : (number count : ℕ) → length (made number count) ≡ count
length-made number zero = refl
length-made number (suc count) = length-append (made number count) (event_at number (suc count) ∷ []) ∙ (let before = length-made number count in omega (arith, before))

-- the run is whole so far
pub record Whole (number count : ℕ) : Type 0 where
  pub each : length (bulk_entries number count) ≡ count
  pub two : 4 ≤ count → SentTwo (bulk_entries number count)

-- and goes on
pub entry_goes : (number count : ℕ) → Whole number count → Goes (bulk_entries number count) (event_at number (suc count))
entry_goes number count whole = next_goes number count whole.two

pub entries_more : (number count : ℕ) (x : Entry) → Whole number count → entry_at made_master made_slave (bulk_entries number count) (event_at number (suc count)) ≡ Some x
    → bulk_entries number (suc count) ≡ x ∷ bulk_entries number count
entries_more number count x whole next =
    world_next made_master made_slave (made number count) (event_at number (suc count)) x (whole.each ∙ sym (length-made number count)) next

pub is_whole : (number count : ℕ) → Whole number count
is_whole number zero = record { each = refl; two = λ late. absurd (omega (arith, late)) }
is_whole number (suc count) =
    let whole : Whole number count = is_whole number count in
    let goes : Goes (bulk_entries number count) (event_at number (suc count)) = entry_goes number count whole in
    let more : bulk_entries number (suc count) ≡ goes.entry ∷ bulk_entries number count = entries_more number count goes.entry whole goes.next in
    record { each = ap length more ∙ ap suc whole.each; two = two_more number count goes.entry whole.two more }
