-- An event that a line says to a pair fits this pair.
use Rattle.duo_run.proofs.Common.{AllZip-left, DuoView, Event, Fits, FitsPair, Heading, IsPairOf, MatchOption-at_some, MayCome, Option, PairsEvent, PairsHeading, PairsStand, Some, heading_profile, length_of, lengths_of, numbered, own_length, pairs_event_fits, pairs_format, pairs_of, profile_of, profiles_of, slice_get-get_or, slice_get_within}
use Rattle.schedule_file.proofs.Pairs.{numbered_map}
use Rattle.std.proofs.Common.{◌≡◌, ◌≤◌, ◌+◌, ◌-◌, ℕ, zero, suc, List, length, map, slice_get, slice_index_or, arith, ap, sym, ◌∙◌, rules}
use Rattle.schedule_file.specs.declared.pairs_line.PairsEvent.TheVariants as common
use Rattle.duo_run.proofs.Pair.Replaying.{fits_set}
use Rattle.duo_run.proofs.Pairs.At.{there}

-- there is a header of this number, whose ends the event fits
pub record FitsHeading (hs : List Heading) (k : ℕ) (event : Event) : Type 0 where
  pub heading : Heading
  pub at : numbered k hs ≡ Some heading
  pub fits : Fits (own_length heading) (heading_profile heading) event

pub fits_heading : (hs : List Heading) (k : ℕ) (event : Event) → FitsPair (map own_length hs) (map heading_profile hs) k event → FitsHeading hs k event
fits_heading hs k event h = search (rules, numbered_map)

-- there is a pair of this number, which the event fits, and one step more of it can be counted
pub record FitsOne (duos : List DuoView) (k : ℕ) (event : Event) : Type 0 where
  pub first : 1 ≤ k
  pub last : k ≤ length duos
  pub each : (place : ℕ) (v : DuoView) → k ≡ place + 1 → slice_get duos place ≡ Some v → Fits (length_of (lengths_of v)) (profile_of (profiles_of v)) event

one_by : (duos : List DuoView) (others : List (Option ℕ)) (made : ℕ) (h : PairsHeading) (log : List PairsEvent) (text : List ℕ) (k : ℕ) (event : Event) → PairsStand duos others made h log text → FitsHeading (pairs_of h) k event → FitsOne duos k event
one_by duos others made h log text zero event s f = cc
one_by duos others made h log text (suc j) event s f =
    let found = there (slice_get s.pairs j) (IsPairOf f.heading) (MatchOption-at_some (Unit {0}) _ f.heading f.at (AllZip-left IsPairOf (pairs_of h) s.pairs s.set j)) in
    let below = slice_get_within s.pairs j found.0 found.1 in
    record {
      first = omega arith;
      last = omega (arith, below, s.stand.many);
      each = λ place v e v-at.
          let same : place ≡ j = omega (arith, e) in
          let stood = s.stand.each (suc j) found.0 v found.1 (ap (slice_get duos) (sym same) ∙ v-at) in
          fits_set f.heading found.0.master found.0.slave v _ event found.2 stood.stands f.fits;
    }

pub one_fits : (duos : List DuoView) (others : List (Option ℕ)) (made k : ℕ) (event : Event) (number : ℕ) → MayCome (PairsStand duos others made) pairs_format (common.One k event) number → FitsOne duos k event
one_fits duos others made k event number may =
    let h = may.heading in
    let said = may.said in
    one_by duos others made h may.log may.text k event may.stands (fits_heading (pairs_of h) k event (pairs_event_fits h said.0 said.1 (common.One k event) said.2 said.3))

-- the duo of a pair that there is stands at its place
pub duo_there : (duos : List DuoView) (k place : ℕ) (given : DuoView) → 1 ≤ k → k ≤ length duos → place ≡ k - 1 → (k ≡ place + 1) × (slice_get duos place ≡ Some (slice_index_or duos place given))
duo_there duos k place given first last at = (omega (arith, first, at), slice_get-get_or duos place given (omega (arith, first, last, at)))
