-- What a block keeps, by looking back over its cycles, newest first.
use Rattle.std.specs.Prelude.{ℕ, ◌-◌, min, not, List, map, if◌then◌else◌}
use Rattle.std.specs.List.{list_any}
use Rattle.fb_lib.specs.declared.held.Held.{Held}
use Rattle.fb_lib.specs.declared.held.Held.TheVariants as held
use Rattle.fb_lib.specs.declared.kind.BlockKind.{BlockKind}
use Rattle.fb_lib.specs.declared.kind.BlockKind.TheVariants as kind
use Rattle.fb_lib.specs.declared.two_hand.TwoHand.{TwoHand}
use Rattle.fb_lib.specs.declared.two_hand.TwoHand.TheVariants as hands
use Rattle.fb_lib.specs.Cycle.{Cycle, first, second}
use Rattle.fb_lib.specs.LookBack.{is_now, run_until_now, before_run, has_since}
use Rattle.fb_lib.specs.Steps.{BlockView}
use Rattle.fb_lib.specs.Value.{ticked_cycles, latch, estop, exactly_one, neither, two_hand, since_input, disagrees, is_late, is_released, watched, feedback}

-- the two buttons after these cycles
abbrev pub hands_of : ℕ → List Cycle → TwoHand
hands_of n e =
    if two_hand n e
    then hands.On
    else (if is_now neither (before_run exactly_one e) then hands.Ready (ticked_cycles (run_until_now exactly_one e)) else hands.Spent)

-- what a block keeps after these cycles
abbrev pub held_of : BlockKind → ℕ → List Cycle → Held
held_of kind.Const0 n e = held.Const0
held_of kind.Const1 n e = held.Const1
held_of kind.And n e = held.And
held_of kind.Or n e = held.Or
held_of kind.Latch n e = held.Latch (record { on = latch e })
held_of kind.Estop n e = held.Estop (record { on = estop e; ack = is_now second e })
held_of kind.TwoHand n e = held.TwoHand (hands_of n e)
held_of kind.OnDelay n e = held.OnDelay (record { age = min n (ticked_cycles (run_until_now first e)) })
held_of kind.OffDelay n e = held.OffDelay (record { left = if list_any first e then n - ticked_cycles (since_input e) else 0 })
held_of kind.Feedback n e =
    held.Feedback (record {
      on = feedback n e;
      age = ticked_cycles (map (λ w. w.cycle) (run_until_now disagrees (watched n e)));
      bad = has_since (is_late n) (λ w. not (is_released w)) (watched n e);
    })

-- a block of this kind and number after these cycles
abbrev pub block_of : BlockKind → ℕ → List Cycle → BlockView
block_of k n e = record { kind = k; n = n; held = held_of k n e }
