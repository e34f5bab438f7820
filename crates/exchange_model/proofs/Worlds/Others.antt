-- The first other entry, and the entries before it.
use Rattle.exchange_model.proofs.Common.{Entry, IsWorld, MasterSettings, NoOther, SlaveSettings, before_other, first_other}
use Rattle.std.proofs.Common.{◌≡◌, ℕ, suc, List, [], ◌∷◌, length, Option, Some, is_some, refl, ap, if◌then◌else◌, arith, rules}

-- no entry before the first other one is other
pub before_is_clean : (w : List Entry) → NoOther (before_other w)
before_is_clean [] = refl
before_is_clean (x ∷ w) = grind (arith, before_is_clean w)

-- a run without another entry is before it as a whole
pub clean_is_before : (w : List Entry) → NoOther w → before_other w ≡ w
clean_is_before [] h = refl
clean_is_before (x ∷ w) h = ap (λ (o : Option ℕ). if is_some o then before_other w else x ∷ w) h

-- the number of the first other entry is one more than the entries before it
pub number_of_first : (w : List Entry) (n : ℕ) → first_other w ≡ Some n → n ≡ suc (length (before_other w))
number_of_first [] n h = cc
number_of_first (x ∷ w) n h = search (rules, clean_is_before, number_of_first w)

-- the entries before the first other one are a world
pub before_is_world : (ms : MasterSettings) (ss : SlaveSettings) (w : List Entry) → IsWorld ms ss w → IsWorld ms ss (before_other w)
before_is_world ms ss [] h = tt
before_is_world ms ss (x ∷ w) h = grind (arith, before_is_world ms ss w h.1)
