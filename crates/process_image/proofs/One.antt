-- A call that is a move of one slot, or of none.
use Rattle.process_image.proofs.Common.{All-head, All-tail, AllZip, AreNumbered, Follows, ImageEvent, ImagesView, IsSeatOf, IsSoundSeat, IsStepOf, Move, Place, Seat, SeatStep, after_steps, slot_contents, if_named, input, move_in, nat_tests, sampled, with_bytes, with_sent}
use Rattle.std.proofs.Common.{◌≡◌, ◌≤◌, ℕ, zero, suc, ◌+◌, ◌==◌, List, [], ◌∷◌, map, slice_get, slice_set, All, Some, None, true, false, if◌then◌else◌, refl, sym, ap, subst, ◌∙◌, arith}
use Rattle.image_file.specs.declared.event.ImageEvent.TheVariants as event
use Rattle.process_image.proofs.Following.{IsPart, stands_more}
use Rattle.process_image.proofs.Seats.{stays, still, still_step}

-- a call after which the slots have seen what they saw before
abbrev pub Unsampled : ℕ → List ImageEvent → ImageEvent → Type 0
Unsampled size calls call = sampled size (call ∷ calls) ≡ sampled size calls

still-part : (size si so : ℕ) (calls : List ImageEvent) (call : ImageEvent) (p : Place) (seat : Seat) → IsSeatOf size calls p seat → IsSoundSeat si so seat → move_in size p calls call ≡ None
    → Unsampled size calls call → IsPart size calls call p (still seat)
still-part size si so calls call p seat h s none same = record {
  before = h;
  is = still_step si so seat s;
  what_is = sym none;
  seen_is = h.seen_is ∙ ap (slot_contents p) (sym same);
  len_is = s.len_out_is;
}

-- no slot of these numbers moves
still-parts : (size si so n : ℕ) (calls : List ImageEvent) (call : ImageEvent) (places : List Place) (seats : List Seat) → AllZip (IsSeatOf size calls) places seats → All (IsSoundSeat si so) seats → AreNumbered n places
    → ((p : Place) → n ≤ p.number → move_in size p calls call ≡ None) → Unsampled size calls call → AllZip (IsPart size calls call) places (map still seats)
still-parts size si so n calls call [] [] h s numbers none same = tt
still-parts size si so n calls call (p ∷ places) (seat ∷ seats) h s numbers none same = (
  still-part size si so calls call p seat h.0 (All-head (IsSoundSeat si so) seat seats s) (none p (omega (arith, numbers.0))) same,
  still-parts size si so (suc n) calls call places seats h.1 (All-tail (IsSoundSeat si so) seat seats s) numbers.1 (λ q late. none q (omega (arith, late))) same,
)
still-parts size si so n calls call _ _ h s numbers none same = absurd h

still-new : (seats : List Seat) → map (λ x. x.new) (map still seats) ≡ seats
still-new [] = refl
still-new (seat ∷ seats) = ap (λ rest. seat ∷ rest) (still-new seats)

still-out : (si so : ℕ) (seats : List Seat) (image : List ℕ) → All (IsSoundSeat si so) seats → image ≡ after_steps (map still seats) image
still-out si so [] image s = refl
still-out si so (seat ∷ seats) image s =
    still-out si so seats image (All-tail (IsSoundSeat si so) seat seats s) ∙ ap (after_steps (map still seats)) (stays si so seat image (All-head (IsSoundSeat si so) seat seats s))

-- bytes are written
pub write_follows : (si so : ℕ) (old new : ImagesView) (at : ℕ) (bytes : List ℕ) → All (IsSoundSeat si so) old.seats → new.seats ≡ old.seats → new.input ≡ with_bytes at bytes old.input
    → new.output ≡ old.output → Follows old (event.Write at bytes) new
write_follows si so old new at bytes s seats now out = record {
  stands = λ plan calls h.
      stands_more plan old new calls (event.Write at bytes) (map still old.seats) h
      (still-parts plan.size_in si so 1 calls (event.Write at bytes) plan.places old.seats h.slots s h.made.numbers (λ p some. refl) refl)
      (still-new old.seats ∙ sym seats) (now ∙ ap (with_bytes at bytes) h.input_is) (out ∙ still-out si so old.seats old.output s);
}

-- the steps where one slot moves, at a place
abbrev pub one_moves : ℕ → List Seat → SeatStep → List SeatStep
one_moves k [] x = []
one_moves zero (seat ∷ seats) x = x ∷ map still seats
one_moves (suc k) (seat ∷ seats) x = still seat ∷ one_moves k seats x

-- a call that names a slot
abbrev pub Names : ImageEvent → ℕ → Move → Type 0
Names call slot what = (size : ℕ) (p : Place) (calls : List ImageEvent) → move_in size p calls call ≡ if_named slot p what

pub unnamed : (slot : ℕ) (p : Place) (what : Move) (n : ℕ) → p.number ≡ n → (slot ≡ n → ⊥) → if_named slot p what ≡ None
unnamed slot p what n e h = let q : (slot == p.number) ≡ false = grind (arith, nat_tests) in ap (λ b. if b then Some what else None) q

pub it : (slot : ℕ) (p : Place) (what : Move) → p.number ≡ slot → if_named slot p what ≡ Some what
it slot p what e = let q : (slot == p.number) ≡ true = grind (arith, nat_tests) in ap (λ b. if b then Some what else None) q

named-part : (size si so slot : ℕ) (what : Move) (calls : List ImageEvent) (call : ImageEvent) (p : Place) (x : SeatStep) → IsSeatOf size calls p x.old → IsSoundSeat si so x.old → p.number ≡ slot
    → IsStepOf what x → Names call slot what → Unsampled size calls call → IsPart size calls call p x
named-part size si so slot what calls call p x h s n x-is names same = record {
  before = h;
  is = x-is.is;
  what_is = x-is.what_is ∙ sym (names size p calls ∙ it slot p what n);
  seen_is = x-is.seen_is ∙ h.seen_is ∙ ap (slot_contents p) (sym same);
  len_is = s.len_out_is;
}

one-parts : (size si so n k slot : ℕ) (what : Move) (calls : List ImageEvent) (call : ImageEvent) (places : List Place) (seats : List Seat) (x : SeatStep) → AllZip (IsSeatOf size calls) places seats
    → All (IsSoundSeat si so) seats → AreNumbered n places → slot ≡ n + k → slice_get seats k ≡ Some x.old → IsStepOf what x → Names call slot what → Unsampled size calls call
    → AllZip (IsPart size calls call) places (one_moves k seats x)
one-parts size si so n k slot what calls call [] [] x h s numbers e at x-is names same = absurd (cc at)
one-parts size si so n zero slot what calls call (p ∷ places) (seat ∷ seats) x h s numbers e at x-is names same =
    let i : seat ≡ x.old = cc in (
      named-part size si so slot what calls call p x (subst (IsSeatOf size calls p) i h.0) (subst (IsSoundSeat si so) i (All-head (IsSoundSeat si so) seat seats s)) (grind arith) x-is names same,
      still-parts size si so (suc n) calls call places seats h.1 (All-tail (IsSoundSeat si so) seat seats s) numbers.1 (λ q late. names size q calls ∙ unnamed slot q what q.number refl (λ is. omega (arith, late, is, e))) same,
    )
one-parts size si so n (suc k) slot what calls call (p ∷ places) (seat ∷ seats) x h s numbers e at x-is names same = (
  still-part size si so calls call p seat h.0 (All-head (IsSoundSeat si so) seat seats s) (names size p calls ∙ unnamed slot p what n numbers.0 (λ is. omega arith)) same,
  one-parts size si so (suc n) k slot what calls call places seats x h.1 (All-tail (IsSoundSeat si so) seat seats s) numbers.1 (omega arith) at x-is names same,
)
one-parts size si so n k slot what calls call _ _ x h s numbers e at x-is names same = absurd h

one-new : (k : ℕ) (seats : List Seat) (x : SeatStep) → map (λ y. y.new) (one_moves k seats x) ≡ slice_set seats k x.new
one-new k [] x = refl
one-new zero (seat ∷ seats) x = ap (λ rest. x.new ∷ rest) (still-new seats)
one-new (suc k) (seat ∷ seats) x = ap (λ rest. seat ∷ rest) (one-new k seats x)

one-out : (si so k : ℕ) (seats : List Seat) (x : SeatStep) (image : List ℕ) → All (IsSoundSeat si so) seats → slice_get seats k ≡ Some x.old
    → with_sent x.old x.sent image ≡ after_steps (one_moves k seats x) image
one-out si so k [] x image s at = absurd (cc at)
one-out si so zero (seat ∷ seats) x image s at = still-out si so seats (with_sent x.old x.sent image) (All-tail (IsSoundSeat si so) seat seats s)
one-out si so (suc k) (seat ∷ seats) x image s at =
    one-out si so k seats x image (All-tail (IsSoundSeat si so) seat seats s) at
    ∙ ap (after_steps (one_moves k seats x)) (stays si so seat image (All-head (IsSoundSeat si so) seat seats s))

-- one slot moves, and the input image stays
pub one_follows : (si so k slot : ℕ) (what : Move) (call : ImageEvent) (old new : ImagesView) (x : SeatStep) → All (IsSoundSeat si so) old.seats → slot ≡ 1 + k → slice_get old.seats k ≡ Some x.old
    → IsStepOf what x → Names call slot what → ((size : ℕ) (calls : List ImageEvent) → Unsampled size calls call) → ((size : ℕ) (calls : List ImageEvent) → input size (call ∷ calls) ≡ input size calls)
    → new.seats ≡ slice_set old.seats k x.new → new.input ≡ old.input → new.output ≡ with_sent x.old x.sent old.output → Follows old call new
one_follows si so k slot what call old new x s e at x-is names same unwritten seats now out = record {
  stands = λ plan calls h.
      stands_more plan old new calls call (one_moves k old.seats x) h
      (one-parts plan.size_in si so 1 k slot what calls call plan.places old.seats x h.slots s h.made.numbers e at x-is names (same plan.size_in calls))
      (one-new k old.seats x ∙ sym seats) (now ∙ h.input_is ∙ sym (unwritten plan.size_in calls)) (out ∙ one-out si so k old.seats x old.output s at);
}
