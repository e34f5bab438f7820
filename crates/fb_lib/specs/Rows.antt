-- Worked rows: what single blocks give, cycle by cycle, and which of their inputs guard them.
use Rattle.std.specs.Prelude.{◌≡◌, ℕ, ◌==◌, true, false, List, [], ◌∷◌, ◌++◌, reverse, map, fold, replicate, codes, if◌then◌else◌}
use Rattle.fb_lib.specs.declared.kind.BlockKind.{BlockKind}
use Rattle.fb_lib.specs.declared.kind.BlockKind.TheVariants as kind
use Rattle.fb_lib.specs.Cycle.{Cycle}
use Rattle.fb_lib.specs.Guarded.{is_guarded}
use Rattle.fb_lib.specs.Standing.{values}

-- the cycle that a text is about to tell, and those before it, the newest first
pub record Reading : Type 0 where
  pub cycle : Cycle
  pub before : List Cycle

-- nothing is told yet: no input, and no tick
abbrev pub idle : Cycle
idle = record { ticked = false; ins = [] }

-- one more character: a space ends a cycle, T ticks it, and 1 or 0 is its next input
abbrev pub with_char : Reading → ℕ → Reading
with_char r char =
    if char == 32
    then record { cycle = idle; before = r.cycle ∷ r.before }
    else record r { cycle = if char == 84 then record r.cycle { ticked = true } else record r.cycle { ins = r.cycle.ins ++ (char == 49) ∷ [] } }

-- the cycles that a text lists, the newest first
abbrev pub cycles : List ℕ → List Cycle
cycles text = let r = fold with_char (record { cycle = idle; before = [] }) text in r.cycle ∷ r.before

-- the values of a block over the cycles that a text lists, as text, the oldest first
abbrev pub given : BlockKind → ℕ → List ℕ → List ℕ
given k n text = map (λ b. if b then 49 else 48) (reverse (values k n (cycles text)))

-- a rise of ack switches on, its level doesn't
unfoldable pub EstopRow : Type 0
EstopRow = given kind.Estop 0 (codes "10 11 10 00 10 01 11 10 11") ≡ codes "011000001"

-- only ticked cycles count, and a false input begins anew
unfoldable pub OnDelayRow : Type 0
OnDelayRow = given kind.OnDelay 2 (codes "1T 1 1T 0 1T") ≡ codes "00100"

-- the second ticked cycle after the input ends it
unfoldable pub OffDelayRow : Type 0
OffDelayRow = given kind.OffDelay 2 (codes "1 0T 0 0T") ≡ codes "1110"

-- one button may be pressed for one ticked cycle, and not for two; one that is let go ends it until both are
unfoldable pub TwoHandRow : Type 0
TwoHandRow = given kind.TwoHand 1 (codes "00 10T 11 10 11 00 10T 01T 11") ≡ codes "001000000"

-- a contactor that doesn't follow for two ticked cycles is switched off, and may be on again once it is released
-- without cmd
unfoldable pub FeedbackRow : Type 0
FeedbackRow = given kind.Feedback 1 (codes "11 11T 11T 01 11") ≡ codes "11001"

-- whether blocks of these kinds are guarded where the first of two inputs is, the second, and both, as text
abbrev pub guarded : List BlockKind → List (List ℕ)
guarded kinds = map (λ k. map (λ gs. if is_guarded k gs then 49 else 48) ((true ∷ false ∷ []) ∷ (false ∷ true ∷ []) ∷ (true ∷ true ∷ []) ∷ [])) kinds

-- guarded by any input; by both together, and by the second; by the first; by none
unfoldable pub GuardRows : Type 0
GuardRows =
    (guarded (kind.Const0 ∷ kind.And ∷ kind.TwoHand ∷ []) ≡ replicate 3 (codes "111"))
    × (guarded (kind.Or ∷ kind.Latch ∷ []) ≡ codes "001" ∷ codes "011" ∷ [])
    × (guarded (kind.Estop ∷ kind.OnDelay ∷ kind.Feedback ∷ []) ≡ replicate 3 (codes "101"))
    × (guarded (kind.Const1 ∷ kind.OffDelay ∷ []) ≡ replicate 2 (codes "000"))
