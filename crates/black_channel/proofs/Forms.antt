-- What a channel holds stays one of the forms.
use Rattle.std.proofs.Common.{ℕ, ◌%◌, List, [], ◌∷◌, ◌++◌, Bool, if◌then◌else◌, nat_le, ◌==◌, Some, None, arith}
use Rattle.std.specs.Prelude.{IfSome}
use Rattle.std.specs.Option.{option_or}
use Rattle.std.specs.declared.option.Option.{Option}
use Rattle.std.proofs.lemmas.List.{length-append}
use Rattle.std.proofs.lemmas.List.Elements.{All-nil, All-cons, All-append, All-drop}
use Rattle.rand_pcg.specs.Lcg.{Lcg}
use Rattle.rand_pcg.specs.Pcg.{pcg32}
use Rattle.black_channel.specs.Holds.{HasFrame, IsRing, IsForm, Given, oldest_taken, with_bit_turned, given_by, with_last, pulled, Chance}
use Rattle.black_channel.specs.declared.channel.Parcel.{Parcel}
use Rattle.std.proofs.lemmas.Grind.{common_steps}

-- what is given has a frame, and what is left is a ring
pub record IsSound (given : Given) : Type 0 where
  pub left : IsRing given.left
  pub gift : IfSome given.gift HasFrame

first : (oldest : Parcel) (others : List Parcel) → IsRing (oldest ∷ others) → HasFrame oldest
first oldest others ring = ring.frames 0 oldest (omega arith)

rest : (oldest : Parcel) (others : List Parcel) → IsRing (oldest ∷ others) → IsRing others
rest oldest others ring = record { most = let m = ring.most in omega arith; frames = All-drop HasFrame 1 (oldest ∷ others) ring.frames }

pub sound_taken : (ring : List Parcel) → IsRing ring → IsSound (oldest_taken ring)
sound_taken [] ring = record { left = ring; gift = tt }
sound_taken (oldest ∷ others) ring = record { left = rest oldest others ring; gift = first oldest others ring }

moved : (oldest : Parcel) (others : List Parcel) → IsRing (oldest ∷ others) → IsRing (others ++ oldest ∷ [])
moved oldest others ring = record {
  most = let m = ring.most in omega (arith, length-append others (oldest ∷ []));
  frames = All-append HasFrame others (oldest ∷ []) (rest oldest others ring).frames (All-cons HasFrame oldest [] (first oldest others ring) (All-nil HasFrame));
}

has_turned : (word : ℕ) (parcel : Parcel) → HasFrame parcel → HasFrame (with_bit_turned word parcel)
has_turned word parcel h = grind (arith, common_steps)

either : (test : Bool) (a b : Given) → IsSound a → IsSound b → IsSound (if test then a else b)
either test a b h k = grind arith

pub sound_given : (by word : ℕ) (oldest : Parcel) (others : List Parcel) (last : Option Parcel) → IsRing (oldest ∷ others) → IfSome last HasFrame
    → IsSound (given_by by word oldest others last)
sound_given by word oldest others last ring has_last =
    let has : HasFrame oldest = first oldest others ring in
    let less : IsRing others = rest oldest others ring in
    either (nat_le by 8) _ _ (sound_taken (oldest ∷ others) ring)
    (either (by == 9) _ _ (record { left = less; gift = tt })
    (either (by == 10) _ _ (record { left = ring; gift = has })
    (either (by == 11) _ _ (sound_taken (others ++ oldest ∷ []) (moved oldest others ring))
    (either (nat_le by 13) _ _ (record { left = less; gift = has_turned word oldest has })
    (either (by == 14) _ _ (record { left = ring; gift = has_last })
    (record { left = ring; gift = tt }))))))

last_has : (gift last : Option Parcel) → IfSome gift HasFrame → IfSome last HasFrame → IfSome (option_or gift last) HasFrame
last_has None last p q = q
last_has (Some parcel) last p q = p

with_last_has : (given : Given) (last : Option Parcel) (words : Lcg) → IsSound given → IfSome last HasFrame → IsForm (with_last given last words).holds
with_last_has given last words sound has_last = (sound.left, last_has given.gift last sound.gift has_last)

pub form_after : (ring : List Parcel) (last : Option Parcel) (words : Lcg) → IsForm (Chance ring last words) → IsForm (pulled (Chance ring last words)).holds
form_after [] last words form = form
form_after (oldest ∷ others) last words form =
    with_last_has _ last (pcg32 words).1 (sound_given ((pcg32 words).0 % 16) (pcg32 words).0 oldest others last form.0 form.1) form.1
