-- Images at which the end of one slot was called.
use Rattle.process_image.proofs.Common.{Core, Follows, HasSlot, ImageEvent, ImagesView, IsAtRest, IsSetting, IsSound, IsSoundSeat, Move, Seat, Setup, input, length-set, nothing, slot_numbered, set_answers, setup_of, setups_of}
use Rattle.std.proofs.Common.{◌≡◌, ◌≤◌, ◌-◌, ℕ, suc, List, [], ◌∷◌, map, length, get_or, slice_get, slice_set, Some, IfSome, refl, sym, subst, ◌∙◌, arith, rules}
use Rattle.end_core.specs.Standing as end_core
use Rattle.process_image.proofs.Counts.{at_setup, seat_there}
use Rattle.process_image.proofs.Keeping.{kept_sound}
use Rattle.process_image.proofs.One.{Names, Unsampled, one_follows}
use Rattle.process_image.proofs.Seats.{Moved, named_step, stays, step_to}
use Rattle.process_image.proofs.Zips.{all_at, all_set, map_set}

-- a seat with another end in it
abbrev pub with_end : Core → Seat → Seat
with_end end seat = record seat { core = end }

-- what is known of what a slot's end is set to, where the slot is named
named-setup : (v : ImagesView) (slot k : ℕ) (seat : Seat) (P : Setup → Type 0) → slot ≡ suc k → slice_get v.seats k ≡ Some seat → IfSome (slot_numbered slot (setups_of v)) P → P (setup_of seat.core)
named-setup v slot k seat P h l m = search (rules, at_setup)

pub own_setup : (v w : ImagesView) (slot place : ℕ) (seat : Seat) (P : Setup → Type 0) → v ≡ w → place ≡ slot - 1 → HasSlot w slot → seat ≡ get_or v.seats place seat → IfSome (slot_numbered slot (setups_of w)) P → P (setup_of seat.core)
own_setup v w slot place seat P same at has is holds =
    named-setup v slot place seat P (omega arith) (seat_there v w slot place seat same at has is) (subst (λ (v : ImagesView). IfSome (slot_numbered slot (setups_of v)) P) (sym same) holds)

-- images stay sound, also where their output image changed, with as many bytes
pub set_sound : (v : ImagesView) (k : ℕ) (seat : Seat) (end : Core) (after : List ℕ) → IsSound v → slice_get v.seats k ≡ Some seat → setup_of end ≡ setup_of seat.core → IsAtRest end → length after ≡ length v.output
    → IsSound (record { seats = slice_set v.seats k (with_end end seat); input = v.input; output = after })
set_sound v k seat end after s at setup rest n =
    let si : ℕ = length v.input in
    let so : ℕ = length v.output in
    record {
      seats = rw n (all_set (IsSoundSeat si so) v.seats k (with_end end seat) s.seats (kept_sound si so seat (with_end end seat) (all_at (IsSoundSeat si so) v.seats k seat s.seats at) refl refl refl refl setup rest));
      most = subst (λ (n : ℕ). n ≤ 64) (sym (length-set v.seats k (with_end end seat))) s.most;
    }

-- the ends are set as before
pub set_setups : (v : ImagesView) (k : ℕ) (seat : Seat) (end : Core) → slice_get v.seats k ≡ Some seat → setup_of end ≡ setup_of seat.core
    → map (λ s. setup_of s.core) (slice_set v.seats k (with_end end seat)) ≡ setups_of v
set_setups v k seat end at setup = map_set (λ (s : Seat). setup_of s.core) v.seats k seat (with_end end seat) at setup

-- an end goes on by a put, a hold or a nonce, and does and sends nothing
pub set_follows : (v w new : ImagesView) (slot place : ℕ) (what : Move) (call : ImageEvent) (seat : Seat) (end : Core) → v ≡ w → IsSound v → place ≡ slot - 1 → HasSlot w slot → seat ≡ get_or v.seats place seat → IsSetting what
    → Names call slot what → ((size : ℕ) (calls : List ImageEvent) → Unsampled size calls call) → ((size : ℕ) (calls : List ImageEvent) → input size (call ∷ calls) ≡ input size calls)
    → end_core.Follows seat.core what end → setup_of end ≡ setup_of seat.core → IsAtRest end → new.seats ≡ slice_set v.seats place (with_end end seat) → new.input ≡ v.input → new.output ≡ v.output → Follows w call new
set_follows v w new slot place what call seat end same s n has read setting names unsampled unwritten follows setup rest seats now out =
    let si : ℕ = length v.input in
    let so : ℕ = length v.output in
    let at : slice_get v.seats place ≡ Some seat = seat_there v w slot place seat same n has read in
    let moved : Moved what seat end nothing [] = record { follows = follows; answers = set_answers seat.core what setting; setup = setup; rest = rest } in
    subst (λ (old : ImagesView). Follows old call new) same
    (one_follows si so place slot what call v new (step_to what seat end seat.seen nothing []) s.seats (omega arith) at (named_step what seat end nothing [] moved) names unsampled unwritten seats now
    (out ∙ stays si so seat v.output (all_at (IsSoundSeat si so) v.seats place seat s.seats at)))
