-- Images that were just made.
use Rattle.process_image.proofs.Common.{All-cons, All-head, All-nil, All-tail, AllZip, AllZip-long, AreNumbered, ImagesView, IsNew, IsNewSeat, IsSeatOf, IsSound, IsSoundSeat, Place, Seat, Slot, StandsFor, bytes_at, first_fault, frame_len, slot_frame, length-replicate, places_from, plan_of, receives, sends, setup_of, with_bytes, with_frames}
use Rattle.std.proofs.Common.{◌≡◌, ◌≤◌, ℕ, suc, ◌+◌, List, [], ◌∷◌, map, length, replicate, All, None, refl, sym, ap, ◌∙◌, rules}
use Rattle.std.proofs.lemmas.List.{drop-replicate, replicate-append-replicate, take-replicate}
use Rattle.process_image.proofs.Apart.{few_places, plan_apart}
use Rattle.image_file.proofs.Faults.{places_count}
use Rattle.process_image.proofs.Giving.{AreApart, len_at}
use Rattle.image_file.proofs.Zips.{zip_same}

-- zeros in zeros
pub zeros_at : (at len size : ℕ) → at + len ≤ size → bytes_at at len (replicate size 0) ≡ replicate len 0
zeros_at at len size h = search (rules, drop-replicate, take-replicate)

pub zeros_with : (at len size : ℕ) → at + len ≤ size → with_bytes at (replicate len 0) (replicate size 0) ≡ replicate size 0
zeros_with at len size h = search (rules, length-replicate, take-replicate, drop-replicate, replicate-append-replicate)

-- slots are numbered from n on
pub numbered_so : (n : ℕ) (slots : List Slot) → AreNumbered n (places_from n slots)
numbered_so n [] = tt
numbered_so n (slot ∷ slots) = (refl, numbered_so (suc n) slots)

-- new seats stand for no calls, and are sound
new-seats : (size_in size_out n : ℕ) (slots : List Slot) (seats : List Seat) → All (λ slot. IsNew slot.core) slots → AllZip IsNewSeat slots seats → AreApart size_in size_out (places_from n slots)
    → AllZip (IsSeatOf size_in []) (places_from n slots) seats × All (IsSoundSeat size_in size_out) seats
new-seats size_in size_out n [] [] new z i = (tt, All-nil (IsSoundSeat size_in size_out))
new-seats size_in size_out n (slot ∷ slots) (seat ∷ seats) new z i =
    let first : IsNew slot.core = All-head (λ slot. IsNew slot.core) slot slots new in
    let len : length seat.seen ≡ frame_len (receives (setup_of slot.core)) = ap length z.0.seen_is ∙ length-replicate (frame_len (receives (setup_of slot.core))) 0 in
    let rest = new-seats size_in size_out (suc n) slots seats (All-tail (λ slot. IsNew slot.core) slot slots new) z.1 i.3 in
    let stands : IsSeatOf size_in [] (record { number = n; at_in = slot.at_in; at_out = slot.at_out; setup = setup_of slot.core }) seat = record {
      at_in_is = z.0.at_in_is;
      at_out_is = z.0.at_out_is;
      end_is = rw z.0.core_is first.is_after;
      seen_is = z.0.seen_is ∙ sym (zeros_at slot.at_in (frame_len (receives (setup_of slot.core))) size_in i.2);
    } in
    ((stands, rest.0), All-cons (IsSoundSeat size_in size_out) seat seats (search (rules, sends)) rest.1)
new-seats size_in size_out n _ _ new z i = absurd z

pub new_setups : (slots : List Slot) (seats : List Seat) → AllZip IsNewSeat slots seats → map (λ s. setup_of s.core) seats ≡ map (λ slot. setup_of slot.core) slots
new_setups slots seats z = zip_same IsNewSeat (λ slot. setup_of slot.core) (λ s. setup_of s.core) slots seats (λ slot seat new. ap setup_of new.core_is) z

-- nothing was sent
zero-frames : (size_in size_out : ℕ) (places : List Place) → AreApart size_in size_out places → with_frames (slot_frame size_in []) places (replicate size_out 0) ≡ replicate size_out 0
zero-frames size_in size_out [] i = refl
zero-frames size_in size_out (p ∷ places) i = ap (with_bytes p.at_out (replicate (len_at p) 0)) (zero-frames size_in size_out places i.3) ∙ zeros_with p.at_out (len_at p) size_out i.0

pub new_stands : (size_in size_out : ℕ) (slots : List Slot) (v : ImagesView) → first_fault (plan_of size_in size_out slots) ≡ None → All (λ slot. IsNew slot.core) slots → AllZip IsNewSeat slots v.seats
    → v.input ≡ replicate size_in 0 → v.output ≡ replicate size_out 0 → StandsFor (plan_of size_in size_out slots) v []
new_stands size_in size_out slots v none new z now out = record {
  made = record { numbers = numbered_so 1 slots; no_fault = none };
  slots = (new-seats size_in size_out 1 slots v.seats new z (plan_apart (plan_of size_in size_out slots) none)).0;
  input_is = now;
  output_is = out ∙ sym (zero-frames size_in size_out (places_from 1 slots) (plan_apart (plan_of size_in size_out slots) none));
}

pub new_sound : (size_in size_out : ℕ) (slots : List Slot) (v : ImagesView) → first_fault (plan_of size_in size_out slots) ≡ None → All (λ slot. IsNew slot.core) slots → AllZip IsNewSeat slots v.seats
    → v.input ≡ replicate size_in 0 → v.output ≡ replicate size_out 0 → IsSound v
new_sound size_in size_out slots v none new z now out = record {
  seats = rw (now, out, length-replicate {A = ℕ} size_in 0, length-replicate {A = ℕ} size_out 0) (new-seats size_in size_out 1 slots v.seats new z (plan_apart (plan_of size_in size_out slots) none)).1;
  most = rw (AllZip-long IsNewSeat slots v.seats z ∙ sym (places_count 1 slots)) (few_places (plan_of size_in size_out slots) none);
}
