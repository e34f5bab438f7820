-- How many slots there are, and where each stands.
use Rattle.process_image.proofs.Common.{HasSlot, ImagesView, Seat, common_steps, slot_numbered, setup_of, slice_get-map, slice_get_read}
use Rattle.std.proofs.Common.{◌≡◌, ◌-◌, ◌∙◌, ℕ, zero, suc, List, map, length, get_or, slice_get, Some, option_map, ap, subst, arith, rules}

count-setups : (seats : List Seat) → length (map (λ seat. setup_of seat.core) seats) ≡ length seats
count-setups seats = grind (arith, common_steps)

-- the seat of a slot that there is stands at its place
pub seat_there : (v w : ImagesView) (slot place : ℕ) (seat : Seat) → v ≡ w → place ≡ slot - 1 → HasSlot w slot → seat ≡ get_or v.seats place seat → slice_get v.seats place ≡ Some seat
seat_there v w slot place seat h k l m = search (rules, count-setups, slice_get_read)

pub seat_numbered : (v w : ImagesView) (slot place : ℕ) (seat : Seat) → v ≡ w → place ≡ slot - 1 → HasSlot w slot → seat ≡ get_or v.seats place seat → slot_numbered slot w.seats ≡ Some seat
seat_numbered v w zero place seat h k l m = absurd (omega (arith, l.first))
seat_numbered v w (suc before) place seat h k l m =
    let e : place ≡ before = omega arith in
    subst (λ (w : ImagesView). slice_get w.seats before ≡ Some seat) h (subst (λ (k : ℕ). slice_get v.seats k ≡ Some seat) e (seat_there v w (suc before) place seat h k l m))

-- what the end of a seat is set to stands at its place
pub at_setup : (seats : List Seat) (k : ℕ) (seat : Seat) → slice_get seats k ≡ Some seat → slice_get (map (λ s. setup_of s.core) seats) k ≡ Some (setup_of seat.core)
at_setup seats k seat h = slice_get-map (λ (s : Seat). setup_of s.core) seats k ∙ ap (option_map (λ (s : Seat). setup_of s.core)) h
