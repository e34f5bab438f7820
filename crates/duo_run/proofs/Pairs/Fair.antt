-- The events of several pairs are proper at the ends of each pair, so that the law of the pair holds of the entries of
-- each.
use Rattle.duo_run.proofs.Common.{All-append, All-cons, All-head, All-nil, All-tail, AllZip, AllZip-right, Event, Fair, Heading, IfSome, IfSome_then, IsPairOf, IsProperEvent, MatchOption-at_some, None, Option, Pair, PairsEvent, PairsHeading, PairsLineFits, PairsRunFairly, Some, before_other, done_after, eqb-true, events_by, events_done, events_to, fair_before, heading_profile, is_met, line_of_event, numbered, own_length, pairs_events_fit, pairs_input, pairs_of, slice_get, world_of}
use Rattle.std.proofs.Common.{◌≡◌, ℕ, zero, suc, List, [], ◌∷◌, Bool, All, map, arith}
use Rattle.std.specs.Prelude.{if◌then◌else◌}
use Rattle.duo_run.proofs.Pair.FairReplay.{same_lengths}
use Rattle.duo_run.proofs.Pairs.Fit.{FitsHeading, fits_heading}
use Rattle.duo_run.proofs.Pairs.At.{there}

-- an event of all fits the pairs of a header
abbrev FitsAll : PairsHeading → PairsEvent → Type 0
FitsAll h event = PairsLineFits (map own_length (pairs_of h)) (map heading_profile (pairs_of h)) (line_of_event event)

-- the events that are done are some of those that come
done_if : (P : PairsEvent → Type 0) (met : Bool) (later past : List PairsEvent) → All P later → All P past → All P (if met then later else past)
done_if P met later past h k = grind arith

done_all : (P : PairsEvent → Type 0) (pairs : List Pair) (events past : List PairsEvent) → All P events → All P past → All P (done_after pairs events past)
done_all P pairs [] past more all = all
done_all P pairs (event ∷ events) past more all =
    done_if P (is_met pairs past event) (done_after pairs events (event ∷ past)) past
    (done_all P pairs events (event ∷ past) (All-tail P event events more) (All-cons P event past (All-head P event events more) all)) all

-- those of one pair
own_all : (P : PairsEvent → Type 0) (Q : Event → Type 0) (k : ℕ) → ((event : PairsEvent) → P event → All Q (events_by k event)) → (past : List PairsEvent) → All P past → All Q (events_to k past)
own_all P Q k each [] all = All-nil Q
own_all P Q k each (event ∷ past) all = All-append Q (events_to k past) (events_by k event) (own_all P Q k each past (All-tail P event past all)) (each event (All-head P event past all))

one_proper : (p : Pair) (hs : List Heading) (h : Heading) (k : ℕ) (event : Event) → numbered k hs ≡ Some h → IsPairOf h p → FitsHeading hs k event → IsProperEvent p.master p.slave event
one_proper p hs h k event l m n = grind arith

by_proper : (h : PairsHeading) (k : ℕ) (own : Heading) (p : Pair) → numbered k (pairs_of h) ≡ Some own → IsPairOf own p → (event : PairsEvent) → FitsAll h event → All (IsProperEvent p.master p.slave) (events_by k event)
by_proper h k own p l m event n = grind (arith, All-cons, one_proper, pairs_of, eqb-true, fits_heading)

-- each pair is set to the header of its number
pair_fair : (h : PairsHeading) (events : List PairsEvent) (pairs : List Pair) (k : ℕ) (p : Pair) → All (FitsAll h) events → AllZip IsPairOf (pairs_of h) pairs → numbered k pairs ≡ Some p
    → Fair p.master.lengths (before_other (world_of k p (events_done pairs events)))
pair_fair h events pairs zero p fits set at = cc
pair_fair h events pairs (suc j) p fits set at =
    let own = there (slice_get (pairs_of h) j) (λ h. IsPairOf h p) (MatchOption-at_some (Unit {0}) _ p at (AllZip-right IsPairOf (pairs_of h) pairs set j)) in
    let done : All (FitsAll h) (events_done pairs events) = done_all (FitsAll h) pairs events [] fits (All-nil (FitsAll h)) in
    fair_before p.master p.slave (events_to (suc j) (events_done pairs events)) (same_lengths own.0 p.master p.slave own.2)
    (own_all (FitsAll h) (IsProperEvent p.master p.slave) (suc j) (by_proper h (suc j) own.0 p own.1 own.2) (events_done pairs events) done)

pub told_pairs_fairly : (told : Option (List ℕ)) → IfSome told (λ bytes. PairsRunFairly (pairs_input bytes))
told_pairs_fairly None = tt
told_pairs_fairly (Some bytes) =
    IfSome_then (pairs_input bytes).heading (pairs_events_fit bytes) (λ h fits pairs k p set at. pair_fair h (pairs_input bytes).events pairs k p fits set at)
