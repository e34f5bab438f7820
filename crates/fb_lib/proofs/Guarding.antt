-- A guarded block is false where its guarded inputs are.
use Rattle.std.proofs.Common.{◌≡◌, ℕ, zero, suc, get_or, ◌||◌, Bool, true, false, List, [], ◌∷◌, refl, ap, ◌∙◌, rules}
use Rattle.std.specs.List.{list_all, list_any}
use Rattle.fb_lib.specs.declared.held.Held.{Held}
use Rattle.fb_lib.specs.declared.kind.BlockKind.{BlockKind}
use Rattle.fb_lib.specs.Cycle.{Cycle}
use Rattle.fb_lib.specs.Value.{value}
use Rattle.fb_lib.specs.Guarded.{is_guarded}
use Rattle.fb_lib.specs.Standing.{AreOff, IsOffIfGuarded, kind_of}
use Rattle.fb_lib.specs.Steps.{next_held, block_gives}

-- an input that is guarded is false
pub off_at : (k : ℕ) (gs bs : List Bool) → AreOff gs bs → get_or gs k false ≡ true → get_or bs k false ≡ false
off_at k [] [] off g = refl
off_at zero (x ∷ gs) (b ∷ bs) off g = off.0 g
off_at (suc k) (x ∷ gs) (b ∷ bs) off g = off_at k gs bs off.1 g
off_at k _ _ off g = absurd off

some-off : (gs bs : List Bool) → AreOff gs bs → list_any (λ g. g) gs ≡ true → list_all (λ b. b) bs ≡ false
some-off [] bs off g = cc
some-off (x ∷ gs) [] off g = absurd off
some-off (true ∷ gs) (true ∷ bs) off g = let h : true ≡ false = off.0 refl in cc
some-off (false ∷ gs) (true ∷ bs) off g = some-off gs bs off.1 g
some-off (x ∷ gs) (false ∷ bs) off g = refl

all-off : (gs bs : List Bool) → AreOff gs bs → list_all (λ g. g) gs ≡ true → list_any (λ b. b) bs ≡ false
all-off [] (b ∷ bs) off g = absurd off
all-off _ [] off g = refl
all-off (false ∷ gs) (b ∷ bs) off g = cc
all-off (true ∷ gs) (b ∷ bs) off g = let h : b ≡ false = off.0 refl in ap (λ (q : Bool). q || list_any (λ b. b) bs) h ∙ all-off gs bs off.1 g

-- the value is false
pub value_off : (k : BlockKind) (n : ℕ) (gs : List Bool) (c : Cycle) (e : List Cycle) → AreOff gs c.ins → is_guarded k gs ≡ true → value k n (c ∷ e) ≡ false
value_off k n gs c e h l = search (rules, some-off, all-off, off_at)

-- and so is what a block gives, whatever it holds
step-off : (n : ℕ) (h : Held) (gs : List Bool) (c : Cycle) → AreOff gs c.ins → is_guarded (kind_of h) gs ≡ true → block_gives n (next_held n h c) c ≡ false
step-off n h gs c k l = search (rules, some-off, all-off, off_at)

pub told_off : (n : ℕ) (old new : Held) (ticked : Bool) (ins : List Bool) (given : Bool)
    → (let c : Cycle = record { ticked = ticked; ins = ins } in new ≡ next_held n old c) → (let c : Cycle = record { ticked = ticked; ins = ins } in given ≡ block_gives n new c) → IsOffIfGuarded (kind_of old) ins given
told_off n old new ticked ins given is h = record {
  off = λ gs off g.
      let c : Cycle = record { ticked = ticked; ins = ins } in
      h ∙ ap (λ (v : Held). block_gives n v c) is ∙ step-off n old gs c off g;
}
