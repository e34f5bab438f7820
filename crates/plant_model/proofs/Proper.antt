-- What a journal means for a connection is proper events, so that the law of the pair holds.
use Rattle.plant_model.proofs.Common.{Fair, HasSameLengths, IfSome, IsProperEvent, IsSomeAnd, IsTrue, JournalStep, Lengths, LinkConf, None, Option, PairsAreFair, SameLengths, Some, StepFits, before_other, fair_before, link_at, option_map, own_events, own_part, pair}
use Rattle.std.proofs.Common.{◌≡◌, ℕ, zero, suc, ◌≤◌, ◌==◌, Bool, List, [], ◌∷◌, map, All, refl, sym, ap, arith, rules}
use Rattle.std.specs.Prelude.{if◌then◌else◌}
use Rattle.std.proofs.lemmas.List.Elements.{All-append, All-head, All-nil, All-tail}
use Rattle.std.proofs.lemmas.Option.{slice_get-map}
use Rattle.multi_master.proofs.Places.{all_at}
use Rattle.param_load.specs.Profile.{allows_id}
use Rattle.param_load.specs.declared.profile.Profile.{Profile}
use Rattle.schedule_file.specs.declared.event.Event.{Event}
use Rattle.plant_model.specs.Fits.{lengths_in, lengths_at}

abbrev Proper : LinkConf → Event → Type 0
Proper link one = IsProperEvent link.master link.slave one

-- an event that is proper where the numbers are the same
same : (link : LinkConf) (n k : ℕ) (e : Event) (is : Bool) → (n == k) ≡ is → (n ≡ k → Proper link e) → All (Proper link) (if is then e ∷ [] else [])
same link n k e is h l = grind arith

-- the lengths of a connection, by its number
lengths_of_link : (links : List LinkConf) (k : ℕ) → lengths_at (map lengths_in links) k ≡ option_map lengths_in (link_at links k)
lengths_of_link links zero = refl
lengths_of_link links (suc place) = slice_get-map lengths_in links place

-- what is said of the lengths with a number is said of its connection
of_link : (P : Lengths → Type 0) (links : List LinkConf) (k : ℕ) (link : LinkConf) → link_at links k ≡ Some link → IsSomeAnd (lengths_at (map lengths_in links) k) P → P link.slave.lengths
of_link P links k link h l = search (rules, lengths_of_link)

-- a session id of 16 bits is one of both profiles
pub allowed : (p : Profile) (id : ℕ) → id ≤ 65535 → IsTrue (allows_id p id)
allowed p id h = grind arith

step_proper : (links : List LinkConf) (k : ℕ) (link : LinkConf) (s : JournalStep) → link_at links k ≡ Some link → StepFits links s → All (Proper link) (own_part k s)
step_proper links k link s h l = search (rules, of_link)

events_proper : (links : List LinkConf) (k : ℕ) (link : LinkConf) (journal : List JournalStep) → link_at links k ≡ Some link → All (StepFits links) journal → All (Proper link) (own_events k journal)
events_proper links k link [] found fits = All-nil (Proper link)
events_proper links k link (s ∷ journal) found fits =
    All-append (Proper link) (own_part k s) (own_events k journal)
    (step_proper links k link s found (All-head (StepFits links) s journal fits))
    (events_proper links k link journal found (All-tail (StepFits links) s journal fits))

pub has_same : (link : LinkConf) → HasSameLengths link → SameLengths link.master link.slave
has_same link e = record { master = ap (λ (z : Lengths). z.master) (sym e); slave = ap (λ (z : Lengths). z.slave) (sym e) }

lengths_at_link : (links : List LinkConf) (k : ℕ) (link : LinkConf) → All HasSameLengths links → link_at links k ≡ Some link → SameLengths link.master link.slave
lengths_at_link links zero link same found = cc
lengths_at_link links (suc place) link same found = has_same link (all_at HasSameLengths links place link same found)

-- what holds of a value wherever there is one
pub if_some : {X : Type 0} (P : X → Type 0) (o : Option X) → ((x : X) → o ≡ Some x → P x) → IfSome o P
if_some P None h = tt
if_some P (Some x) h = h x refl

pub pairs_are_fair : (links : List LinkConf) (journal : List JournalStep) → All HasSameLengths links → All (StepFits links) journal → PairsAreFair links journal
pairs_are_fair links journal same fits = λ k. if_some (λ link. Fair link.master.lengths (before_other (pair link k journal))) (link_at links k)
    (λ link found. fair_before link.master link.slave (own_events k journal) (lengths_at_link links k link same found) (events_proper links k link journal found fits))
