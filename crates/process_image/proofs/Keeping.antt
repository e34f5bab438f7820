-- What stays when all slots do their part.
use Rattle.process_image.proofs.Common.{All-cons, All-head, All-nil, All-tail, IsAtRest, IsSeatStep, IsSoundSeat, Seat, SeatStep, Setup, common_steps, frame_len, receives, sends, setup_of}
use Rattle.std.proofs.Common.{◌≡◌, ℕ, List, [], ◌∷◌, map, length, take, drop, ◌++◌, All, refl, sym, ap, ap₂, ◌∙◌, arith}

-- a slot stays sound with another end that is set alike
pub kept_sound : (si so : ℕ) (old new : Seat) → IsSoundSeat si so old → new.at_in ≡ old.at_in → new.at_out ≡ old.at_out → new.len_out ≡ old.len_out → length new.seen ≡ length old.seen → setup_of new.core ≡ setup_of old.core
    → IsAtRest new.core → IsSoundSeat si so new
kept_sound si so old new s at_in at_out len_out seen setup rest = record {
  rest = rest;
  seen_len = seen ∙ s.seen_len ∙ ap (λ (t : Setup). frame_len (receives t)) (sym setup);
  len_out_is = len_out ∙ s.len_out_is ∙ ap (λ (t : Setup). frame_len (sends t)) (sym setup);
  inside_in = rw (at_in, seen) s.inside_in;
  inside_out = rw (at_out, len_out) s.inside_out;
}

pub steps_sound : (Q : SeatStep → Type 0) (si so : ℕ) (xs : List SeatStep) → ((x : SeatStep) → Q x → IsSeatStep x) → All Q xs → All (IsSoundSeat si so) (map (λ x. x.old) xs) → All (IsSoundSeat si so) (map (λ x. x.new) xs)
steps_sound Q si so [] is q s = All-nil (IsSoundSeat si so)
steps_sound Q si so (x ∷ xs) is q s =
    let step : IsSeatStep x = is x (All-head Q x xs q) in
    All-cons (IsSoundSeat si so) x.new (map (λ x. x.new) xs)
    (kept_sound si so x.old x.new (All-head (IsSoundSeat si so) x.old (map (λ x. x.old) xs) s) step.at_in_is step.at_out_is step.len_out_is step.seen_len step.setup step.rest)
    (steps_sound Q si so xs is (All-tail Q x xs q) (All-tail (IsSoundSeat si so) x.old (map (λ x. x.old) xs) s))

pub steps_setups : (Q : SeatStep → Type 0) (xs : List SeatStep) → ((x : SeatStep) → Q x → IsSeatStep x) → All Q xs
    → map (λ s. setup_of s.core) (map (λ x. x.new) xs) ≡ map (λ s. setup_of s.core) (map (λ x. x.old) xs)
steps_setups Q [] is q = refl
steps_setups Q (x ∷ xs) is q = ap₂ (λ (t : Setup) (ts : List Setup). t ∷ ts) (is x (All-head Q x xs q)).setup (steps_setups Q xs is (All-tail Q x xs q))

-- a list that was written through a slice of all of it
pub written_back : {A : Type 0} (xs ys : List A) (n : ℕ) → n ≡ length ys → length xs ≡ length ys → take n (xs ++ drop (length xs) ys) ≡ xs
written_back xs ys n h e = grind (arith, common_steps)
