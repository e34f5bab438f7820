-- What holds of a place.
use Rattle.std.proofs.Common.{◌≡◌, ℕ, Bool, Option, false, IsTrue, refl, sym, ◌∙◌, ap}
use Rattle.std.specs.Prelude.{Some, None, is_some}
use Rattle.std.proofs.lemmas.Bool.{false≢true}
use Rattle.c_values.specs.Place.{IfThere, answered}

-- where no end is there, all holds of each
pub vacuous : {V : Type 0} (live : Bool) (o : Option V) (P : V → Type 0) → live ≡ is_some o → live ≡ false → IfThere o P
vacuous live o P sound dead v there = absurd (false≢true (sym dead ∙ sound ∙ ap is_some there))

-- where one value stands in a place, it is the one that was moved in
pub there_is : {X : Type 0} (o : Option X) (x v : X) → o ≡ Some x → o ≡ Some v → x ≡ v
there_is o x v made there = cc

-- where no end is there, the answer says so
pub unserved : {V : Type 0} (live : Bool) (o : Option V) (test : V → Bool) (why : ℕ) → live ≡ is_some o → live ≡ false → 1 ≡ answered o test why
unfolding answered
unserved live None test why sound dead = refl
unserved live (Some v) test why sound dead = absurd (false≢true (sym dead ∙ sound))

-- the end that is there passes the test
pub passes : {V : Type 0} (o : Option V) (v : V) (test : V → Bool) (why : ℕ) → o ≡ Some v → IsTrue (test v) → 0 ≡ answered o test why
unfolding answered
passes o v test why held met = rw (held, met) refl

-- the end that is there fails it
pub fails : {V : Type 0} (o : Option V) (v : V) (test : V → Bool) (why : ℕ) → o ≡ Some v → test v ≡ false → why ≡ answered o test why
unfolding answered
fails o v test why held unmet = rw (held, unmet) refl
