-- What a monitor with lists keeps: all items of both ends, oldest first.
use Rattle.std.specs.Prelude.{ℕ, suc, ◌≡◌, ◌-◌, List, [], ◌∷◌, ◌++◌, length, reverse, Bool, ◌&&◌, not, Option, Some, None, option_map, if◌then◌else◌}
use Rattle.std.specs.List.{find, slice_get}
use Rattle.fsoe_base.specs.declared.command.End.{End}
use Rattle.fsoe_base.specs.declared.command.End.TheVariants as side
use Rattle.fsoe_base.specs.declared.command.Command.TheVariants as command
use Rattle.param_load.specs.declared.entry.Entry.{Entry}
use Rattle.end_model.specs.Phases.{has_command}
use Rattle.end_model.specs.Deed.{delivered, is_empty}
use Rattle.exchange_model.specs.declared.side.Sent.{Sent}
use Rattle.exchange_model.specs.declared.list_monitor.Listed.{Listed}
use Rattle.exchange_model.specs.Items.{Item, items_of, items, answers_to}
use Rattle.exchange_model.specs.Other.{first_of_both, first_other}
use Rattle.exchange_model.specs.Monitor.{Side, next_sent, is_other_to, number_taken}

-- what is listed of an item
abbrev pub listing : Item → Listed
listing i = record { sent = record { number = i.number; bytes = i.bytes }; answers = i.answers }

-- the items of an end, oldest first
abbrev pub listed : List Item → List Listed
listed [] = []
listed (i ∷ found) = listed found ++ (listing i ∷ [])

-- what contracts see of the monitor: the entries that it noted, the number of the first other entry, and the items of
-- both ends
pub record ListView : Type 0 where
  pub noted : ℕ
  pub other : Option ℕ
  pub master : List Listed
  pub slave : List Listed

-- a monitor that noted these entries
abbrev pub list_of : List Entry → ListView
list_of w = record { noted = length w; other = first_other w; master = listed (items_of side.Master (items w)); slave = listed (items_of side.Slave (items w)) }

-- a monitor that had noted some entries has noted this one too
pub record ListsEntry (old : ListView) (x : Entry) (new : ListView) : Type 0 where
  pub lists : (w : List Entry) → old ≡ list_of w → new ≡ list_of (x ∷ w)

-- the newest of these items
abbrev pub last_sent : List Listed → Option Sent
last_sent found = option_map (λ i. i.sent) (slice_get found (length found - 1))

-- whether an item isn't a Reset frame and answers the one with this number
abbrev pub is_answer_to : ℕ → Listed → Bool
is_answer_to number i = not (has_command command.Reset i.sent.bytes) && answers_to number i.answers

-- the newest of these items that isn't a Reset frame and answers the one with this number
abbrev pub last_answer : ℕ → List Listed → Option Sent
last_answer number found = option_map (λ i. i.sent) (find (is_answer_to number) (reverse found))

-- the newest of these items that answers an item, if there is such an item
abbrev pub answer_in : List Listed → Option Sent → Option Sent
answer_in found None = None
answer_in found (Some s) = last_answer s.number found

-- the newest item of an end, and the item that it awaits
abbrev pub side_in : List Listed → List Listed → Side
side_in mine theirs = record { newest = last_sent mine; awaited = answer_in theirs (last_sent mine) }

-- what is kept of an end, looked up in the lists
abbrev pub looked_up : End → ListView → Side
looked_up side.Master v = side_in v.master v.slave
looked_up side.Slave v = side_in v.slave v.master

-- the items of an end after an entry of its own
abbrev pub list_after : Side → Side → Entry → List Listed → List Listed
list_after own other_side x found =
    if is_empty x.sent then found
    else found ++ (record { sent = next_sent own.newest x.sent; answers = number_taken own other_side (delivered x.what) x.did.took } ∷ [])

-- the lists after an entry of this end
abbrev pub lists_after : End → ListView → Entry → ListView
lists_after side.Master v x = record v { master = list_after (looked_up side.Master v) (looked_up side.Slave v) x v.master }
lists_after side.Slave v x = record v { slave = list_after (looked_up side.Slave v) (looked_up side.Master v) x v.slave }

-- a monitor after an entry
abbrev pub listed_next : ListView → Entry → ListView
listed_next v x = record (lists_after x.end v x) {
  noted = suc v.noted;
  other = first_of_both v.other (is_other_to (looked_up x.end v) x.did.passed (delivered x.what)) (suc v.noted);
}
