-- The items of an end are the frames that it sent.
use Rattle.exchange_model.proofs.Common.{End, Entry, Item, frames_of, items, items_of}
use Rattle.std.proofs.Common.{◌≡◌, ℕ, List, [], ◌∷◌, map, refl, arith}

-- the frames that items are
abbrev pub bytes_in : List Item → List (List ℕ)
bytes_in found = map (λ i. i.bytes) found

pub frames : (which : End) (w : List Entry) → map (λ i. i.bytes) (items_of which (items w)) ≡ frames_of which w
frames which [] = refl
frames which (x ∷ w) = grind (arith, frames which w)
