-- A block stands for the cycles that it was stepped with, newest first: it doesn't keep them, and gives what looking
-- back over them says.
use Rattle.std.specs.Prelude.{◌≡◌, ℕ, Bool, true, false, List, [], ◌∷◌}
use Rattle.fb_lib.specs.declared.held.Held.{Held}
use Rattle.fb_lib.specs.declared.held.Held.TheVariants as held
use Rattle.fb_lib.specs.declared.kind.BlockKind.{BlockKind}
use Rattle.fb_lib.specs.declared.kind.BlockKind.TheVariants as kind
use Rattle.fb_lib.specs.Cycle.{Cycle}
use Rattle.fb_lib.specs.Guarded.{is_guarded}
use Rattle.fb_lib.specs.Kept.{block_of}
use Rattle.fb_lib.specs.Steps.{BlockView}
use Rattle.fb_lib.specs.Value.{value}

-- a block stands for these cycles: it is where they leave a new one of this kind and number
pub record BlockStands (k : BlockKind) (n : ℕ) (v : BlockView) (e : List Cycle) : Type 0 where
  pub is : v ≡ block_of k n e

-- a block that stood for some cycles stands for these and the one with which it is stepped
pub record BlockFollows (old : BlockView) (c : Cycle) (new : BlockView) : Type 0 where
  pub stands : (k : BlockKind) (n : ℕ) (e : List Cycle) → BlockStands k n old e → BlockStands k n new (c ∷ e)

-- what a block gives in a cycle is its value by looking back over the cycles for which it stood, and this one
pub record BlockGives (old : BlockView) (c : Cycle) (given : Bool) : Type 0 where
  pub gives : (k : BlockKind) (n : ℕ) (e : List Cycle) → BlockStands k n old e → given ≡ value k n (c ∷ e)

-- a block was stepped through these cycles, and gave these outputs, the newest first
abbrev pub Stepped : BlockView → List Cycle → List Bool → BlockView → Type 0
Stepped first [] [] last = first ≡ last
Stepped first (c ∷ e) (given ∷ outputs) last = (v : BlockView) × Stepped first e outputs v × BlockGives v c given × BlockFollows v c last
Stepped first _ _ last = ⊥

-- each input is false where the list says that it is guarded, and there are as many as the list has
abbrev pub AreOff : List Bool → List Bool → Type 0
AreOff [] [] = Unit {0}
AreOff (g ∷ gs) (b ∷ bs) = (g ≡ true → b ≡ false) × AreOff gs bs
AreOff _ _ = ⊥

-- what a block of this kind gives is false if it is guarded and its guarded inputs are false, whichever are guarded
pub record IsOffIfGuarded (k : BlockKind) (ins : List Bool) (given : Bool) : Type 0 where
  pub off : (gs : List Bool) → AreOff gs ins → is_guarded k gs ≡ true → given ≡ false

-- the value in each cycle
abbrev pub values : BlockKind → ℕ → List Cycle → List Bool
values k n [] = []
values k n (c ∷ e) = value k n (c ∷ e) ∷ values k n e

-- the kind of a block that keeps this
abbrev pub kind_of : Held → BlockKind
kind_of held.Const0 = kind.Const0
kind_of held.Const1 = kind.Const1
kind_of held.And = kind.And
kind_of held.Or = kind.Or
kind_of (held.Latch _) = kind.Latch
kind_of (held.Estop _) = kind.Estop
kind_of (held.TwoHand _) = kind.TwoHand
kind_of (held.OnDelay _) = kind.OnDelay
kind_of (held.OffDelay _) = kind.OffDelay
kind_of (held.Feedback _) = kind.Feedback
