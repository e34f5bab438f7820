-- How a net goes on by one cycle, with what its blocks keep. A machine's own words: what they come to is said by
-- looking back.
use Rattle.std.specs.Prelude.{ℕ, ◌==◌, Bool, false, List, [], ◌∷◌, ◌++◌, map, drop, replicate, get_or, if◌then◌else◌}
use Rattle.fb_lib.specs.declared.held.Held.{Held}
use Rattle.fb_lib.specs.declared.held.Held.TheVariants as held
use Rattle.fb_lib.specs.declared.kind.BlockKind.{BlockKind}
use Rattle.fb_lib.specs.declared.kind.BlockKind.TheVariants as kind
use Rattle.fb_lib.specs.declared.two_hand.TwoHand.{TwoHand}
use Rattle.fb_lib.specs.declared.two_hand.TwoHand.TheVariants as hands
use Rattle.fb_lib.specs.Cycle.{Cycle}
use Rattle.fb_lib.specs.Steps.{next_held, next_block, block_gives}
use Rattle.failsafe_io.specs.Application.{Answer}
use Rattle.fb_net.specs.declared.wire.Wire.{Wire}
use Rattle.fb_net.specs.BlockSpec.{BlockSpec}
use Rattle.fb_net.specs.declared.spec.Drive.{Drive}
use Rattle.fb_net.specs.Values.{NetCycle, NetBlock, wire_value}
use Rattle.fb_net.specs.Outputs.{driven_images}

-- the cycle of a block, by the values of the blocks before it
abbrev pub cycle_of : List Bool → NetCycle → List Wire → Cycle
cycle_of values c ins = record { ticked = c.ticked; ins = map (wire_value values c.inputs) ins }

-- a block after the cycle, and what it gives
abbrev pub block_after : List Bool → NetCycle → BlockSpec → BlockSpec
block_after values c b = record b { block = next_block b.block (cycle_of values c b.ins) }

abbrev pub given : List Bool → NetCycle → BlockSpec → Bool
given values c b = block_gives b.block.n (next_held b.block.n b.block.held (cycle_of values c b.ins)) (cycle_of values c b.ins)

-- the values of blocks, after those of the blocks before them
abbrev pub run_values : List Bool → NetCycle → List BlockSpec → List Bool
run_values values c [] = values
run_values values c (b ∷ bs) = run_values (values ++ given values c b ∷ []) c bs

-- the blocks after the cycle
abbrev pub run_blocks : List Bool → NetCycle → List BlockSpec → List BlockSpec
run_blocks values c [] = []
run_blocks values c (b ∷ bs) = block_after values c b ∷ run_blocks (values ++ given values c b ∷ []) c bs

-- 1 for true, 0 for false
abbrev pub flag : Bool → ℕ
flag on = if on then 1 else 0

-- what a block keeps, as three numbers: a count, and two that are 1 for true and 0 for false; for two buttons the
-- second is 1 while they are on, and 2 while they are ready
abbrev pub kept_numbers : Held → List ℕ
kept_numbers (held.Latch l) = 0 ∷ flag l.on ∷ 0 ∷ []
kept_numbers (held.Estop s) = 0 ∷ flag s.on ∷ flag s.ack ∷ []
kept_numbers (held.TwoHand (hands.Ready gap)) = gap ∷ 2 ∷ 0 ∷ []
kept_numbers (held.TwoHand hands.On) = 0 ∷ 1 ∷ 0 ∷ []
kept_numbers (held.OnDelay d) = d.age ∷ 0 ∷ 0 ∷ []
kept_numbers (held.OffDelay d) = d.left ∷ 0 ∷ 0 ∷ []
kept_numbers (held.Feedback f) = f.age ∷ flag f.on ∷ flag f.bad ∷ []
kept_numbers _ = replicate 3 0

-- what a net holds as numbers: for each block what it keeps, and then its value, 1 for true and 0 for false
abbrev pub holds_of : List BlockSpec → List Bool → List ℕ
holds_of [] values = []
holds_of (b ∷ bs) values = kept_numbers b.block.held ++ flag (get_or values 0 false) ∷ holds_of bs (drop 1 values)

-- the values among these numbers
abbrev pub held_values : List ℕ → List Bool
held_values (count ∷ on ∷ last ∷ value ∷ held) = (value == 1) ∷ held_values held
held_values _ = []

-- two buttons, from a count and a number
abbrev pub hands_from : ℕ → ℕ → TwoHand
hands_from count on = if on == 1 then hands.On else (if on == 2 then hands.Ready count else hands.Spent)

-- what a block of a kind keeps, from three numbers
abbrev pub held_from : BlockKind → ℕ → ℕ → ℕ → Held
held_from kind.Const0 count on last = held.Const0
held_from kind.Const1 count on last = held.Const1
held_from kind.And count on last = held.And
held_from kind.Or count on last = held.Or
held_from kind.Latch count on last = held.Latch (record { on = on == 1 })
held_from kind.Estop count on last = held.Estop (record { on = on == 1; ack = last == 1 })
held_from kind.TwoHand count on last = held.TwoHand (hands_from count on)
held_from kind.OnDelay count on last = held.OnDelay (record { age = count })
held_from kind.OffDelay count on last = held.OffDelay (record { left = count })
held_from kind.Feedback count on last = held.Feedback (record { on = on == 1; age = count; bad = last == 1 })

abbrev pub restored : NetBlock → ℕ → ℕ → ℕ → BlockSpec
restored p count on last = record { block = record { kind = p.kind; n = p.n; held = held_from p.kind count on last }; ins = p.ins }

abbrev pub all_restored : List NetBlock → List ℕ → List BlockSpec
all_restored [] held = []
all_restored (p ∷ ps) held = restored p (get_or held 0 0) (get_or held 1 0) (get_or held 2 0) ∷ all_restored ps (drop 4 held)

-- the answer of a net to a cycle, by what it holds
abbrev pub net_rule : List NetBlock → List Drive → List ℕ → Bool → List (List ℕ) → List ℕ → Answer
net_rule plan drives held ticked inputs lens =
    let c : NetCycle = record { ticked = ticked; inputs = inputs } in
    let blocks : List BlockSpec = all_restored plan held in
    let values : List Bool = run_values [] c blocks in
    record { outputs = driven_images drives values inputs lens; holds = holds_of (run_blocks [] c blocks) values }
