-- The value of a block, by looking back over its cycles, newest first.
use Rattle.std.specs.Prelude.{ℕ, min, nat_lt, nat_le, Bool, true, false, not, ◌&&◌, ◌||◌, List, [], ◌∷◌, map, count_by}
use Rattle.std.specs.Bool.{beq}
use Rattle.std.specs.List.{list_all, list_any}
use Rattle.fb_lib.specs.declared.kind.BlockKind.{BlockKind}
use Rattle.fb_lib.specs.declared.kind.BlockKind.TheVariants as kind
use Rattle.fb_lib.specs.Cycle.{Cycle, first, second}
use Rattle.fb_lib.specs.LookBack.{is_now, run_until_now, before_run, has_since}

-- how many of these cycles are ticked; the count stops at 65,535
abbrev pub ticked_cycles : List Cycle → ℕ
ticked_cycles e = min (count_by (λ c. c.ticked) e) 65535

-- set, the first input, was true once, and enable, the second, has been true from that cycle up to now
abbrev pub latch : List Cycle → Bool
latch e = has_since (is_now first) second e

-- ack, the second input, is true now and wasn't in the cycle before
abbrev pub ack_rises : List Cycle → Bool
ack_rises [] = false
ack_rises (c ∷ e) = second c && not (is_now second e)

-- ack rose once, and input, the first, has been true from that cycle up to now
abbrev pub estop : List Cycle → Bool
estop e = has_since ack_rises first e

-- whether both inputs are true, exactly one is, and none
abbrev pub both : Cycle → Bool
both c = first c && second c

abbrev pub exactly_one : Cycle → Bool
exactly_one c = not (beq (first c) (second c))

abbrev pub neither : Cycle → Bool
neither c = not (first c || second c)

-- cycles with exactly one input true stand last, at most n of them ticked, and before them one with none
abbrev pub is_ready : ℕ → List Cycle → Bool
is_ready n e = nat_le (ticked_cycles (run_until_now exactly_one e)) n && is_now neither (before_run exactly_one e)

-- both inputs are true now, and the run of such cycles began when the block was ready
abbrev pub two_hand : ℕ → List Cycle → Bool
two_hand n e = is_now both e && is_ready n (before_run both e)

-- the input is true now, and at least n cycles of the run of such ones are ticked
abbrev pub on_delay : ℕ → List Cycle → Bool
on_delay n e = is_now first e && nat_le n (ticked_cycles (run_until_now first e))

-- the cycles after the last one with the input true
abbrev pub since_input : List Cycle → List Cycle
since_input e = run_until_now (λ c. not (first c)) e

-- the input is true now, or it was once, and fewer than n cycles after the last such one are ticked
abbrev pub off_delay : ℕ → List Cycle → Bool
off_delay n e = is_now first e || (list_any first e && nat_lt (ticked_cycles (since_input e)) n)

-- a cycle of a contactor, and the output in the cycle before
pub record Watched : Type 0 where
  pub cycle : Cycle
  pub output : Bool

-- the inputs are cmd and fb, and fb is true while the contactor is released: where fb is what the output was, it
-- doesn't follow
abbrev pub disagrees : Watched → Bool
disagrees w = beq (second w.cycle) w.output

-- more than n ticked cycles stand in the run, ending now, of those where the contactor doesn't follow
abbrev pub is_late : ℕ → List Watched → Bool
is_late n e = nat_lt n (ticked_cycles (map (λ w. w.cycle) (run_until_now disagrees e)))

-- cmd is false and the contactor is released
abbrev pub is_released : Watched → Bool
is_released w = not (first w.cycle) && second w.cycle

-- cmd is true now, and no cycle is late with none from it up to now where the contactor is released without cmd
abbrev pub switches : ℕ → List Watched → Bool
switches n e = is_now (λ w. first w.cycle) e && not (has_since (is_late n) (λ w. not (is_released w)) e)

-- each cycle with the output in the one before it, which is false before the first
abbrev pub watched : ℕ → List Cycle → List Watched
watched n [] = []
watched n (c ∷ e) = record { cycle = c; output = switches n (watched n e) } ∷ watched n e

abbrev pub feedback : ℕ → List Cycle → Bool
feedback n e = switches n (watched n e)

-- the value of a block of this kind and number n in the newest cycle
abbrev pub value : BlockKind → ℕ → List Cycle → Bool
value kind.Const0 n e = false
value kind.Const1 n e = true
value kind.And n e = is_now (λ c. list_all (λ b. b) c.ins) e
value kind.Or n e = is_now (λ c. list_any (λ b. b) c.ins) e
value kind.Latch n e = latch e
value kind.Estop n e = estop e
value kind.TwoHand n e = two_hand n e
value kind.OnDelay n e = on_delay n e
value kind.OffDelay n e = off_delay n e
value kind.Feedback n e = feedback n e
