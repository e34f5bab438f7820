-- A pull of a channel that tells what it holds.
use Rattle.std.proofs.Common.{◌≡◌, ℕ, ◌^◌, ◌≤◌, ◌<◌, List, Some, None, refl, sym, ap, subst, ◌∙◌, arith, rules}
use Rattle.std.specs.Option.{option_or}
use Rattle.std.specs.declared.option.Option.{Option}
use Rattle.fsoe_io.specs.Faults.{Rose}
use Rattle.rand_pcg.specs.Lcg.{Lcg}
use Rattle.black_channel.specs.Holds.{Holds, IsRing, IsForm, oldest_taken, pulled, Chance}
use Rattle.black_channel.specs.Told.{GrowsByGift, PullsParcel, parcel_of}
use Rattle.black_channel.specs.Calls.{holding, empties_after}
use Rattle.black_channel.specs.declared.channel.Parcel.{Parcel}
use Rattle.black_channel.specs.declared.channel.Place.{Place}
use Rattle.black_channel.proofs.Forms.{sound_taken, form_after}

grows : (answer : Option Place) (n : ℕ) → n < 2 ^ 64 → n ≤ empties_after answer n
grows answer n h = grind arith

rises : (answer : Option Place) (frame : List ℕ) (n : ℕ) → n < 2 ^ 64 → parcel_of answer frame ≡ None → Rose n (empties_after answer n)
rises answer frame n h k = grind arith

-- a list that isn't told stays untold
untold : (answer : Option Place) (frame : List ℕ) → GrowsByGift (parcel_of answer frame) None None
untold answer frame = grind arith

-- a channel that tells no parcels
pub pulls_by : (old new : Holds) (answer : Option Place) (frame : List ℕ) (before now : ℕ) → before < 2 ^ 64 → now ≡ empties_after answer before
    → IsForm new → parcel_of answer frame ≡ (pulled old).gift → new ≡ (pulled old).holds → PullsParcel (parcel_of answer frame) (holding old before) (holding new now)
pulls_by old new answer frame before now fits count form gift holds = subst (λ (n : ℕ). PullsParcel (parcel_of answer frame) (holding old before) (holding new n)) (sym count) (record {
  holds = ap Some holds;
  gift = gift;
  form = form;
  empties = grows answer before fits;
  nothing = rises answer frame before fits;
  pushed = refl;
  given = untold answer frame;
})

-- a ring stays a ring
pub ring_left : (old new : List Parcel) → IsRing old → new ≡ (oldest_taken old).left → IsRing new
ring_left old new ring is = subst IsRing (sym is) (sound_taken old ring).left

-- a channel of chance that notes what it gives
pub form_left : (ring left : List Parcel) (last now gift : Option Parcel) (words next : Lcg) → IsForm (Chance ring last words)
    → Chance left (option_or gift last) next ≡ (pulled (Chance ring last words)).holds → now ≡ option_or gift last → IsForm (Chance left now next)
form_left ring left last now gift words next h k l = search (rules, form_after)

pub chance_pulls : (ring left : List Parcel) (last now : Option Parcel) (words next : Lcg) (answer : Option Place) (frame : List ℕ) (before count : ℕ)
    → before < 2 ^ 64 → count ≡ empties_after answer before → IsForm (Chance ring last words) → parcel_of answer frame ≡ (pulled (Chance ring last words)).gift
    → Chance left (option_or (parcel_of answer frame) last) next ≡ (pulled (Chance ring last words)).holds → now ≡ option_or (parcel_of answer frame) last
    → PullsParcel (parcel_of answer frame) (holding (Chance ring last words) before) (holding (Chance left now next) count)
chance_pulls ring left last now words next answer frame before count fits counted form gift holds is =
    let left_form : IsForm (Chance left now next) = form_left ring left last now (parcel_of answer frame) words next form holds is in
    pulls_by (Chance ring last words) (Chance left now next) answer frame before count fits counted left_form gift
    (ap (λ (l : Option Parcel). Chance left l next) is ∙ holds)
