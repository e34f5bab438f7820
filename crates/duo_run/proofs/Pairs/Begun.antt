-- Several new pairs are set to what a header says.
use Rattle.duo_run.proofs.Common.{All-cons, All-nil, AllZip, AllZip-left, AllZip-long, AreSetTo, DuoStands, DuoView, Heading, IsPairOf, MasterSettings, None, Option, Pair, PairsHeading, PairsStage, PairsStand, SameLengths, SlaveSettings, Some, StandsOver, all_zipped_more, common_steps, is_done, length-map, numbered, other_events, pairs_begun, pairs_heading_is_whole, pairs_of}
use Rattle.std.proofs.Common.{◌≡◌, ◌≤◌, ◌<◌, ◌+◌, ℕ, zero, suc, List, [], ◌∷◌, ◌++◌, All, IsTrue, length, map, take, slice_get, replicate, refl, arith, ap, sym, subst, ◌∙◌, add-one}
use Rattle.duo_run.proofs.Pair.FairReplay.{same_lengths}
use Rattle.duo_run.proofs.Pairs.Ticking.{taken}

-- the settings of so many pairs, and those of the next one
abbrev pub AreSettings : List Heading → List (MasterSettings × SlaveSettings) → Type 0
AreSettings hs settings = AllZip (λ h own. AreSetTo h own.0 own.1) hs settings

pub settings_more : (hs : List Heading) (settings : List (MasterSettings × SlaveSettings)) (place : ℕ) (h : Heading) (own : MasterSettings × SlaveSettings) → slice_get hs place ≡ Some h → AreSettings (take place hs) settings → AreSetTo h own.0 own.1
    → AreSettings (take (place + 1) hs) (settings ++ own ∷ [])
settings_more hs settings place h own at are is =
    subst (λ (hs : List Heading). AreSettings hs (settings ++ own ∷ [])) (sym (ap (λ (n : ℕ). take n hs) (add-one place) ∙ taken hs place h at))
    (all_zipped_more (λ h own. AreSetTo h own.0 own.1) (take place hs) settings h own are is)

-- the ends of each pair have the same lengths
pub all_same_lengths : (hs : List Heading) (settings : List (MasterSettings × SlaveSettings)) → AreSettings hs settings → All (λ own. SameLengths own.0 own.1) settings
all_same_lengths [] [] are = All-nil (λ own. SameLengths own.0 own.1)
all_same_lengths (h ∷ hs) (own ∷ settings) are =
    All-cons (λ own. SameLengths own.0 own.1) own settings (same_lengths h own.0 own.1 are.0) (all_same_lengths hs settings are.1)
all_same_lengths _ _ are = absurd are

-- the pairs that have these settings
abbrev pair_of : MasterSettings × SlaveSettings → Pair
pair_of own = record { master = own.0; slave = own.1 }

set_to : (hs : List Heading) (settings : List (MasterSettings × SlaveSettings)) → AreSettings hs settings → AllZip IsPairOf hs (map pair_of settings)
set_to [] [] are = tt
set_to (h ∷ hs) (own ∷ settings) are = (are.0, set_to hs settings are.1)
set_to _ _ are = absurd are

new_stand : (settings : List (MasterSettings × SlaveSettings)) (duos : List DuoView) → AllZip (λ own v. DuoStands own.0 own.1 v []) settings duos → AllZip (λ p v. StandsOver p [] v) (map pair_of settings) duos
new_stand [] [] new = tt
new_stand (own ∷ settings) (v ∷ duos) new = (record { stands = new.0; whole = refl }, new_stand settings duos new.1)
new_stand _ _ new = absurd new

stand_each : (pairs : List Pair) (duos : List DuoView) → AllZip (λ p v. StandsOver p [] v) pairs duos → (k : ℕ) (p : Pair) (v : DuoView) → numbered k pairs ≡ Some p → numbered k duos ≡ Some v → StandsOver p [] v
stand_each pairs duos new zero p v p-at v-at = cc
stand_each pairs duos new (suc j) p v p-at v-at = rw (p-at, v-at) at (AllZip-left (λ p v. StandsOver p [] v) pairs duos new j)

none_other : (k : ℕ) (pairs : List Pair) → replicate (length pairs) None ≡ other_events k pairs []
none_other k [] = refl
none_other k (p ∷ pairs) = ap (λ (others : List (Option ℕ)). None ∷ others) (none_other (suc k) pairs)

-- a header that is done has a pair
has_pair : (s : PairsStage) (before : List Heading) (last : Heading) → IsTrue (is_done s) → 0 < length (pairs_begun s before last)
has_pair s before last h = grind (arith, common_steps)

pub some_settings : (h : PairsHeading) (settings : List (MasterSettings × SlaveSettings)) → IsTrue (pairs_heading_is_whole h) → AreSettings (pairs_of h) settings → 1 ≤ length settings
some_settings h settings done are =
    let some = has_pair h.stage h.before h.last done in
    let many = AllZip-long (λ h own. AreSetTo h own.0 own.1) (pairs_of h) settings are in
    omega (arith, some, many)

pub pairs_begin : (h : PairsHeading) (settings : List (MasterSettings × SlaveSettings)) (duos : List DuoView) (others : List (Option ℕ)) → IsTrue (pairs_heading_is_whole h) → AreSettings (pairs_of h) settings → length settings ≤ 16
    → AllZip (λ own v. DuoStands own.0 own.1 v []) settings duos → others ≡ replicate (length settings) None → PairsStand duos others 0 h [] []
pairs_begin h settings duos others done are few new none =
    let pairs : List Pair = map pair_of settings in
    let set : AllZip IsPairOf (pairs_of h) pairs = set_to (pairs_of h) settings are in
    let stand = new_stand settings duos new in
    let many : length settings ≡ length (pairs_of h) = AllZip-long (λ h own. AreSetTo h own.0 own.1) (pairs_of h) settings are in
    let same : length pairs ≡ length settings = length-map settings pair_of in
    record {
      pairs = pairs;
      past = [];
      set = set;
      done = refl;
      whole = refl;
      stand = record { many = AllZip-long (λ p v. StandsOver p [] v) pairs duos stand; each = stand_each pairs duos stand };
      some = has_pair h.stage h.before h.last done;
      few = omega (arith, many, few);
      made_is = refl;
      others_are = none ∙ ap (λ (n : ℕ). replicate n None) (sym same) ∙ none_other 1 pairs;
      lines = refl;
    }
