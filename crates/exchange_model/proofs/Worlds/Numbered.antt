-- The items of an end are numbered from 1, in the order in which they were sent.
use Rattle.exchange_model.proofs.Common.{End, Entry, Item, is_empty, item_of, items, items_of, same_end}
use Rattle.std.proofs.Common.{◌≡◌, suc, List, [], ◌∷◌, length, Bool, true, false, if◌then◌else◌, refl, ap, arith}
use Rattle.exchange_model.proofs.Worlds.Projection.{same}

-- the number of an item is one more than the older ones of its end
abbrev pub Numbered : List Item → Type 0
Numbered [] = Unit {0}
Numbered (i ∷ found) = (i.number ≡ suc (length found)) × Numbered found

-- the items of an end grow by at most one, which has the next number
pub data Grown (old new : List Item) : Type 0 where
  Same : new ≡ old → Grown old new
  More : (i : Item) → new ≡ i ∷ old → i.number ≡ suc (length old) → Grown old new

grown-by : (which : End) (i : Item) (found : List Item) (mine none : Bool) → same_end which i.end ≡ mine → (mine ≡ true → i.number ≡ suc (length (items_of which found)))
    → Grown (items_of which found) (items_of which (if none then found else i ∷ found))
grown-by which i found mine true h k = Same refl
grown-by which i found true false h k = More i (simp h) (k refl)
grown-by which i found false false h k = Same (simp h)

pub next_number : (which : End) (x : Entry) (w : List Entry) → same_end which x.end ≡ true → suc (length (items_of x.end (items w))) ≡ suc (length (items_of which (items w)))
next_number which x w h = ap (λ (it : End). suc (length (items_of it (items w)))) (same which x.end h)

pub grown : (which : End) (x : Entry) (w : List Entry) → Grown (items_of which (items w)) (items_of which (items (x ∷ w)))
grown which x w = grown-by which (item_of x w (items w)) (items w) (same_end which x.end) (is_empty x.sent) refl (next_number which x w)

-- the items of an end are numbered
pub numbered : (which : End) (w : List Entry) → Numbered (items_of which (items w))
numbered which [] = tt
numbered which (x ∷ w) = grind (arith, grown which x w, numbered which w)
