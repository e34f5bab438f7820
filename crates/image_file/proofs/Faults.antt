-- The first fault of slots, test by test.
use Rattle.image_file.proofs.Common.{Slot, first_fault, first_outside, first_pair, outside_or, places_from, plan_of}
use Rattle.std.proofs.Common.{◌≡◌, ◌≤◌, ◌<◌, ℕ, suc, List, [], ◌∷◌, length, Option, Some, refl, ap, rules}
use Rattle.image_file.specs.declared.fault.SlotFault.TheVariants as fault

pub places_count : (n : ℕ) (slots : List Slot) → length (places_from n slots) ≡ length slots
places_count n [] = refl
places_count n (slot ∷ slots) = ap suc (places_count (suc n) slots)

-- there are more than 64
pub too_many : (size_in size_out : ℕ) (slots : List Slot) → 64 < length slots → Some fault.TooMany ≡ first_fault (plan_of size_in size_out slots)
too_many size_in size_out slots h = search (rules, places_count)

-- there aren't: then it is what the other tests say
pub tested : (size_in size_out : ℕ) (slots : List Slot) (o : Option ℕ) → length slots ≤ 64 → o ≡ first_outside size_in size_out (places_from 1 slots)
    → outside_or o (first_pair (places_from 1 slots)) ≡ first_fault (plan_of size_in size_out slots)
tested size_in size_out slots o h k = search (rules, places_count)
