-- The two buttons of a two-hand control after one more cycle.
use Rattle.std.proofs.Common.{◌≡◌, ℕ, nat_le, if◌then◌else◌, not, ◌&&◌, ◌||◌, Bool, true, false, List, [], ◌∷◌, arith, rules}
use Rattle.std.specs.Bool.{beq}
use Rattle.fb_lib.specs.declared.two_hand.TwoHand.{TwoHand}
use Rattle.fb_lib.specs.declared.two_hand.TwoHand.TheVariants as hands
use Rattle.fb_lib.specs.Cycle.{Cycle, first, second}
use Rattle.fb_lib.specs.Value.{ticked_cycles}
use Rattle.fb_lib.specs.Steps.{risen, next_hands}
use Rattle.fb_lib.specs.Kept.{hands_of}
use Rattle.std.proofs.lemmas.Grind.{common_steps}

-- the buttons, by what looking back finds: whether the block is on, whether it is ready, and for how long
abbrev hands_by : Bool → Bool → ℕ → TwoHand
hands_by on ready gap = if on then hands.On else (if ready then hands.Ready gap else hands.Spent)

-- the next ones, where a and b are pressed, and `before` says whether the block was ready before the run of both
abbrev after : Bool → Bool → Bool → ℕ → Bool → Bool → TwoHand
after before ready t gap a b = hands_by ((a && b) && before) (if not (beq a b) then ready else not (a || b)) (if not (beq a b) then risen gap t else 0)

-- the next ones from any: a block isn't ready while both are pressed, and is ready before the run of both where it is
-- now, in time
next-by : (n gap : ℕ) (t a b now_both ready before : Bool) → (now_both ≡ true → ready ≡ false) → (now_both ≡ false → before ≡ (nat_le gap n && ready))
    → next_hands n (hands_by (now_both && before) ready gap) t a b ≡ after before ready t gap a b
next-by n gap t a b now_both ready before h k = grind arith

gap-next : (q : Bool) (c : Cycle) (e : List Cycle) → ticked_cycles (if q then c ∷ e else []) ≡ (if q then risen (ticked_cycles e) c.ticked else 0)
gap-next q c e = grind (arith, common_steps)

-- the buttons that looking back finds after one more cycle
pub hands_of-next : (n : ℕ) (e : List Cycle) (c : Cycle) → next_hands n (hands_of n e) c.ticked (first c) (second c) ≡ hands_of n (c ∷ e)
hands_of-next n e c = search (rules, next-by, gap-next)
