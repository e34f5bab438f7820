-- Other entries: a guarded frame passed the CRC test of its receiver, and its bytes weren't those of the item that the
-- receiver awaited, or it awaited none. That taken data are the peer's rests on there being no such entry. The word is
-- this profile's own.
use Rattle.std.specs.Prelude.{ℕ, suc, ◌≡◌, List, [], ◌∷◌, length, Bool, true, false, ◌&&◌, not, Option, Some, None, is_some, if◌then◌else◌}
use Rattle.param_load.specs.declared.entry.Entry.{Entry}
use Rattle.end_model.specs.Phases.{is_guarded_frame}
use Rattle.end_model.specs.Deed.{delivered}
use Rattle.exchange_model.specs.Items.{Item, items, awaited, has_bytes}

-- whether an entry is other, by the items before it
abbrev pub is_other : List Item → Entry → Bool
is_other before x =
    x.did.passed && is_guarded_frame (delivered x.what) && not (has_bytes (delivered x.what) (awaited before x.end))

-- the number of the first other entry, where there may be one before this entry
abbrev pub first_of_both : Option ℕ → Bool → ℕ → Option ℕ
first_of_both (Some first) other number = Some first
first_of_both None true number = Some number
first_of_both None false number = None

-- the number of the first other entry, from 1, if there is one
abbrev pub first_other : List Entry → Option ℕ
first_other [] = None
first_other (x ∷ w) = first_of_both (first_other w) (is_other (items w) x) (suc (length w))

-- no entry is other
abbrev pub NoOther : List Entry → Type 0
NoOther w = first_other w ≡ None

-- the entries before the first other entry, all if there is none
abbrev pub before_other : List Entry → List Entry
before_other [] = []
before_other (x ∷ w) = if is_some (first_other (x ∷ w)) then before_other w else x ∷ w

-- the number of an item, if there is one
abbrev pub item_number : Option Item → Option ℕ
item_number None = None
item_number (Some i) = Some i.number
