-- Looking back over what was up to now, newest first.
use Rattle.std.specs.Prelude.{List, [], ◌∷◌, Bool, false, ◌&&◌, ◌||◌, if◌then◌else◌}

-- p holds of the newest
abbrev pub is_now : {A : Type 0} → (A → Bool) → List A → Bool
is_now p [] = false
is_now p (x ∷ e) = p x

-- the run of those with p that ends now
abbrev pub run_until_now : {A : Type 0} → (A → Bool) → List A → List A
run_until_now p [] = []
run_until_now p (x ∷ e) = if p x then x ∷ run_until_now p e else []

-- what stands before the run of those with p that ends now
abbrev pub before_run : {A : Type 0} → (A → Bool) → List A → List A
before_run p [] = []
before_run p (x ∷ e) = if p x then before_run p e else x ∷ e

-- at some place p holds, which looks back from there, and q holds from that place up to now
abbrev pub has_since : {A : Type 0} → (List A → Bool) → (A → Bool) → List A → Bool
has_since p q [] = false
has_since p q (x ∷ e) = q x && (p (x ∷ e) || has_since p q e)
