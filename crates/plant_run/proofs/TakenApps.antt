-- The application that is taken by its name is the first of it that is left.
use Rattle.plant_run.proofs.Common.{AppView, EntryOf, IsTaken, KindOf, None, Option, Some, Taken, named, passed, name_place, position_from, remove, string_bytes, take_app}
use Rattle.std.proofs.Common.{◌≡◌, ℕ, suc, ◌+◌, Bool, true, false, List, [], ◌∷◌, map, cond, slice_get, if◌then◌else◌, refl, ap, arith}
use Rattle.std.specs.Str.{bytes_eq}
use Rattle.fb_net.specs.declared.kind_of.KindOf.TheVariants as kind

-- what is left of these, of which one was taken
abbrev taken_of : {H : Type 0} → (KindOf H → AppView) → List (EntryOf H) → EntryOf H → Option Taken
taken_of view left one = Some (record { app = view (kind.Handed one.app); left = map (named view) left })

abbrev names : {H : Type 0} → List (EntryOf H) → List (List ℕ)
names all = map (λ entry. string_bytes entry.name) all

-- this is taken of a list, where a name is found in it at this place, counted from k
abbrev TakenAt : {H : Type 0} → (KindOf H → AppView) → List (EntryOf H) → ℕ → Option ℕ → Option Taken → Type 0
TakenAt {H} view all k None taken = taken ≡ None
TakenAt {H} view all k (Some n) taken = (place : ℕ) × (n ≡ k + place) × ((one : EntryOf H) → slice_get all place ≡ Some one → taken ≡ taken_of view (remove all place) one)

-- the first is taken where it has the name, and else one of the others
taken_by : {H : Type 0} (view : KindOf H → AppView) (x : EntryOf H) (xs : List (EntryOf H)) (b : Bool) (k : ℕ) (rest : Option ℕ) (later : Option Taken) → TakenAt view xs (k + 1) rest later
    → TakenAt view (x ∷ xs) k (cond b (Some k) rest) (if b then taken_of view xs x else passed (named view x) later)
taken_by view x xs true k rest later h = (0, omega arith, λ one at. let same : x ≡ one = cc in ap (taken_of view xs) same)
taken_by view x xs false k None later h = ap (passed (named view x)) h
taken_by view x xs false k (Some n) later h = (suc h.0, omega (arith, h.1), λ one at. ap (passed (named view x)) (h.2 one at))

taken_from : {H : Type 0} (view : KindOf H → AppView) (name : List ℕ) (k : ℕ) (all : List (EntryOf H)) → TakenAt view all k (position_from (λ own. bytes_eq own name) k (names all)) (take_app name (map (named view) all))
taken_from view name k [] = refl
taken_from view name k (x ∷ xs) = taken_by view x xs (bytes_eq (string_bytes x.name) name) k _ _ (taken_from view name (k + 1) xs)

pub app_taken : {H : Type 0} (view : KindOf H → AppView) (name : List ℕ) (all left : List (EntryOf H)) (one : EntryOf H) → IsTaken (λ entry. string_bytes entry.name) name all one left → take_app name (map (named view) all) ≡ taken_of view left one
app_taken view name all left one h =
    let at : TakenAt view all 0 (Some h.place) (take_app name (map (named view) all)) = rw h.first at (taken_from view name 0 all) in
    let same : h.place ≡ at.0 = omega (arith, at.1) in
    rw (h.left_is, same) (at.2 one (rw same at h.one_is))

pub app_missing : {H : Type 0} (view : KindOf H → AppView) (name : List ℕ) (all : List (EntryOf H)) → name_place name (names all) ≡ None → take_app name (map (named view) all) ≡ None
app_missing view name all none = rw none at (taken_from view name 0 all)
