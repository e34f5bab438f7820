-- What a monitor keeps after an entry is what the definitions say of the entries with it.
use Rattle.exchange_model.proofs.Common.{Did, End, Entry, HasParts, Item, MonitorView, NotesEntry, NotesParts, Sent, Side, Took, awaited, delivered, has_command, is_answer, is_other, is_other_to, item_number, item_taken, items, items_of, kept_of, newest, newest_answer, next_number, noted_next, number_taken, own_after, peer, peer_after, sent_number, sent_of, side_of, view_of}
use Rattle.std.proofs.Common.{◌≡◌, ℕ, suc, ◌≤◌, List, ◌∷◌, length, ◌&&◌, not, Option, Some, None, if◌then◌else◌, refl, ◌∙◌, arith, rules}
use Rattle.fsoe_base.specs.declared.command.Command.TheVariants as command
use Rattle.exchange_model.proofs.Worlds.Numbered.{Numbered, numbered}
use Rattle.exchange_model.proofs.Joint.Awaited.{found}
use Rattle.exchange_model.proofs.Offering.Sending.{SentItem, answered-before, older-than, sent-item}

-- no item of the peer answers the next item of an end yet
none-answers : (which : End) (w : List Entry) → newest_answer (suc (length (items_of which (items w)))) (items_of (peer which) (items w)) ≡ None
none-answers which w = none-of (newest_answer (suc (length (items_of which (items w)))) (items_of (peer which) (items w))) refl
  where
    none-of : (o : Option Item) → newest_answer (suc (length (items_of which (items w)))) (items_of (peer which) (items w)) ≡ o → o ≡ None
    none-of None h = refl
    none-of (Some j) h =
        let at : SentItem (peer which) j w = sent-item _ (peer which) j w h in
        let k : suc (length (items_of which (items w))) ≤ length (items_of which (items at.before)) = answered-before which _ j w (found _ (items_of (peer which) (items w)) j (numbered (peer which) w) h).answers at in
        let grows : length (items_of which (items at.before)) ≤ length (items_of which (items w)) = older-than which (peer which) j w at in
        absurd (omega arith)

abbrev side : Option Sent → Option Sent → Side
side n a = record { newest = n; awaited = a }

pub newest_next : (found : List Item) → Numbered found → next_number (sent_of (newest found)) ≡ suc (length found)
newest_next found h = grind arith

-- an end that sends an item
own-items : (which : End) (i : Item) (found : List Item) → i.end ≡ which → kept_of which (i ∷ found) ≡ side (sent_of (Some i)) (sent_of (newest_answer i.number (items_of (peer which) found)))
own-items which i found h = grind arith

pub own_kept : (which : End) (x : Entry) (w : List Entry) → x.end ≡ which → own_after (kept_of which (items w)) x.sent ≡ kept_of which (items (x ∷ w))
own_kept which x w h = search (rules, next_number, newest_next, numbered, none-answers, own-items)

peer-items : (which : End) (i : Item) (found : List Item) → i.end ≡ which
    → kept_of (peer which) (i ∷ found) ≡ side (kept_of (peer which) found).newest (if not (has_command command.Reset i.bytes) && is_answer (kept_of (peer which) found).newest i.answers then sent_of (Some i) else (kept_of (peer which) found).awaited)
peer-items which i found h = grind arith

pub number_taken_is : (which : End) (found : List Item) (bytes : List ℕ) (took : Option Took) → number_taken (kept_of which found) (kept_of (peer which) found) bytes took ≡ item_taken found which bytes took
number_taken_is which found bytes took = grind arith

pub peer_kept : (which : End) (x : Entry) (w : List Entry) → x.end ≡ which → peer_after (kept_of which (items w)) (kept_of (peer which) (items w)) (delivered x.what) x.did.took x.sent ≡ kept_of (peer which) (items (x ∷ w))
peer_kept which x w h = search (rules, next_number, newest_next, numbered, number_taken, delivered, number_taken_is, peer-items)

pub other_is : (which : End) (x : Entry) (w : List Entry) → x.end ≡ which → is_other_to (kept_of which (items w)) x.did.passed (delivered x.what) ≡ is_other (items w) x
other_is which x w h = grind arith

same-view : (n : ℕ) (other other' : Option ℕ) (a a' b b' : Side) → other ≡ other' → a ≡ a' → b ≡ b'
    → (let v : MonitorView = record { noted = n; other = other; master = a; slave = b } in v) ≡ record { noted = n; other = other'; master = a'; slave = b' }
same-view n other other' a a' b b' h i j = cc

-- a monitor that steps so notes the entry
notes-entry : (old new : MonitorView) (x : Entry) → new ≡ noted_next old x.end (delivered x.what) x.did x.sent → NotesEntry old x new
notes-entry old new x h = search (rules, noted_next, delivered, same-view, other_is, own_kept, peer_kept)

-- and each entry with the parts by which it steps
pub notes_by : {old new : MonitorView} {at : End} {came sent : List ℕ} {did : Did} → new ≡ noted_next old at came did sent → NotesParts old at came did sent new
notes_by {old} {new} {at} {came} {sent} {did} h = record {
  notes = λ x parts. notes-entry old new x (h ∙ rw (parts.end_is, parts.came_is, parts.did_is, parts.sent_is) refl);
}

pub notes_whole : (old new : MonitorView) (x : Entry) → NotesParts old x.end (delivered x.what) x.did x.sent new → NotesEntry old x new
notes_whole old new x noted = noted.notes x (record { end_is = refl; came_is = refl; did_is = refl; sent_is = refl })

-- the number of the item that an end awaits
pub awaited_number : (v : MonitorView) (by : End) (w : List Entry) → v ≡ view_of w → sent_number (side_of by v).awaited ≡ item_number (awaited (items w) by)
awaited_number v by w h = grind arith

-- whether an entry with these parts is other
pub tells_other : (v : MonitorView) (at : End) (came : List ℕ) (did : Did) (w : List Entry) (x : Entry) (sent : List ℕ) → v ≡ view_of w → HasParts x at came did sent
    → is_other_to (side_of at v) did.passed came ≡ is_other (items w) x
tells_other v at came did w x sent h k = search (rules, other_is)
