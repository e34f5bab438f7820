-- Slots without a fault lie inside both images, and share no byte of the output image.
use Rattle.process_image.proofs.Common.{Place, Plan, first_fault, first_outside, first_pair, first_with, lie_inside, overlap, pair_or, share, spans_of}
use Rattle.std.proofs.Common.{◌≡◌, ◌≤◌, ◌⊎◌, ℕ, ◌+◌, ◌&&◌, List, [], ◌∷◌, length, Option, Some, None, Bool, true, false, nat_lt, nat_le, if◌then◌else◌, leb-true, arith, rules}
use Rattle.std.proofs.lemmas.Bool.{and_parts, or_parts}
use Rattle.image_file.specs.declared.fault.SlotFault.{SlotFault}
use Rattle.image_file.specs.declared.fault.SlotFault.TheVariants as fault
use Rattle.process_image.proofs.Giving.{len_at, AwayFrom, AreApart}

-- a test that is followed by no fault
chosen : {A : Type 0} (b : Bool) (x : A) (rest : Option A) → (if b then Some x else rest) ≡ None → (b ≡ false) × (rest ≡ None)
chosen b x rest h = grind arith

passed : {A : Type 0} (b : Bool) (x : A) (rest : Option A) → (if b then rest else Some x) ≡ None → (b ≡ true) × (rest ≡ None)
passed b x rest h = grind arith

no-pair : (a : ℕ) (o : Option ℕ) (later : Option SlotFault) → pair_or a o later ≡ None → (o ≡ None) × (later ≡ None)
no-pair a o later h = grind arith

away : (a la b lb : ℕ) → (nat_lt a (b + lb) && nat_lt b (a + la)) ≡ false → (a + la ≤ b) ⊎ (b + lb ≤ a)
away a la b lb h = grind arith

away-all : (p : Place) (places : List Place) → first_with (spans_of p) places ≡ None → AwayFrom p places
away-all p [] h = tt
away-all p (q ∷ places) h =
    let c = chosen (overlap (spans_of p) (spans_of q)) q.number (first_with (spans_of p) places) h in
    (away p.at_out (len_at p) q.at_out (len_at q) (or_parts (share p.at_in (spans_of p).len_in q.at_in (spans_of q).len_in) (share p.at_out (len_at p) q.at_out (len_at q)) c.0).1, away-all p places c.1)

apart : (size_in size_out : ℕ) (places : List Place) → first_outside size_in size_out places ≡ None → first_pair places ≡ None → AreApart size_in size_out places
apart size_in size_out [] h i = tt
apart size_in size_out (p ∷ places) h i =
    let c = passed (lie_inside size_in size_out (spans_of p)) p.number (first_outside size_in size_out places) h in
    let d = no-pair p.number (first_with (spans_of p) places) (first_pair places) i in
    let inside = and_parts (nat_le (p.at_in + (spans_of p).len_in) size_in) (nat_le (p.at_out + len_at p) size_out) c.0 in
    (leb-true _ _ inside.1, away-all p places d.0, leb-true _ _ inside.0, apart size_in size_out places c.1 d.1)

pub plan_apart : (plan : Plan) → first_fault plan ≡ None → AreApart plan.size_in plan.size_out plan.places
plan_apart plan h = search (rules, apart)

pub few_places : (plan : Plan) → first_fault plan ≡ None → length plan.places ≤ 64
few_places plan h = grind arith
