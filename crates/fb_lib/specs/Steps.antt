-- What a block keeps between cycles, and how it goes on. A machine's own words: what they come to is said by looking
-- back.
use Rattle.std.specs.Prelude.{ℕ, ◌+◌, ◌-◌, min, nat_lt, nat_le, Bool, true, false, not, ◌&&◌, ◌||◌, if◌then◌else◌}
use Rattle.std.specs.Bool.{beq}
use Rattle.std.specs.List.{list_all, list_any}
use Rattle.fb_lib.specs.declared.estop.Estop.{Estop}
use Rattle.fb_lib.specs.declared.feedback.Feedback.{Feedback}
use Rattle.fb_lib.specs.declared.held.Held.{Held}
use Rattle.fb_lib.specs.declared.held.Held.TheVariants as held
use Rattle.fb_lib.specs.declared.kind.BlockKind.{BlockKind}
use Rattle.fb_lib.specs.declared.latch.Latch.{Latch}
use Rattle.fb_lib.specs.declared.two_hand.TwoHand.{TwoHand}
use Rattle.fb_lib.specs.declared.two_hand.TwoHand.TheVariants as hands
use Rattle.fb_lib.specs.Cycle.{Cycle, first, second}

-- a count of ticks after one more cycle; it stays at 65,535
abbrev pub risen : ℕ → Bool → ℕ
risen count ticked = if ticked then min (count + 1) 65535 else count

-- a latch goes on with set, and stays on, while enable is true
abbrev pub next_latch : Latch → Bool → Bool → Latch
next_latch l set enable = record { on = enable && (set || l.on) }

-- an emergency stop goes on where ack rises, and stays on, while its input is true
abbrev pub next_estop : Estop → Bool → Bool → Estop
next_estop s input ack = record { on = input && ((ack && not s.ack) || s.on); ack = ack }

-- a two-hand control is ready once both buttons are released, goes on where both are pressed in time, and is spent
-- where they are late or one is let go
abbrev pub next_hands : ℕ → TwoHand → Bool → Bool → Bool → TwoHand
next_hands n h ticked false false = hands.Ready 0
next_hands n (hands.Ready gap) ticked true true = if nat_le gap n then hands.On else hands.Spent
next_hands n hands.On ticked true true = hands.On
next_hands n hands.Spent ticked true true = hands.Spent
next_hands n (hands.Ready gap) ticked _ _ = hands.Ready (risen gap ticked)
next_hands n _ ticked _ _ = hands.Spent

-- it gives whether it is on
abbrev pub is_on : TwoHand → Bool
is_on hands.On = true
is_on _ = false

-- an on-delay counts the ticked cycles with its input true, up to n
abbrev pub on_age : ℕ → ℕ → Bool → Bool → ℕ
on_age n age ticked x = if x then (if ticked && nat_lt age n then age + 1 else age) else 0

-- it gives its input once it counted n
abbrev pub on_told : ℕ → ℕ → Bool → Bool
on_told n age x = x && nat_le n age

-- an off-delay counts down from n, by the ticked cycles with its input false
abbrev pub off_left : ℕ → ℕ → Bool → Bool → ℕ
off_left n left ticked x = if x then n else (if ticked && nat_lt 0 left then left - 1 else left)

-- it gives true while its input is true, and after that until it counted down
abbrev pub off_told : ℕ → Bool → Bool
off_told left x = x || nat_lt 0 left

-- a contactor that hasn't followed for more than n ticked cycles is bad until it is released without cmd, and is on
-- with cmd unless it is bad
abbrev pub next_feedback : ℕ → Feedback → Bool → Bool → Bool → Feedback
next_feedback n f ticked cmd fb =
    let age = if beq fb f.on then risen f.age ticked else 0 in
    let bad = not (not cmd && fb) && (nat_lt n age || f.bad) in
    record { on = cmd && not bad; age = age; bad = bad }

-- what a block with this number keeps after one more cycle
abbrev pub next_held : ℕ → Held → Cycle → Held
next_held n held.Const0 c = held.Const0
next_held n held.Const1 c = held.Const1
next_held n held.And c = held.And
next_held n held.Or c = held.Or
next_held n (held.Latch l) c = held.Latch (next_latch l (first c) (second c))
next_held n (held.Estop s) c = held.Estop (next_estop s (first c) (second c))
next_held n (held.TwoHand h) c = held.TwoHand (next_hands n h c.ticked (first c) (second c))
next_held n (held.OnDelay d) c = held.OnDelay (record { age = on_age n d.age c.ticked (first c) })
next_held n (held.OffDelay d) c = held.OffDelay (record { left = off_left n d.left c.ticked (first c) })
next_held n (held.Feedback f) c = held.Feedback (next_feedback n f c.ticked (first c) (second c))

-- what a block gives in its last cycle, by what it keeps after it
abbrev pub block_gives : ℕ → Held → Cycle → Bool
block_gives n held.Const0 c = false
block_gives n held.Const1 c = true
block_gives n held.And c = list_all (λ b. b) c.ins
block_gives n held.Or c = list_any (λ b. b) c.ins
block_gives n (held.Latch l) c = l.on
block_gives n (held.Estop s) c = s.on
block_gives n (held.TwoHand h) c = is_on h
block_gives n (held.OnDelay d) c = on_told n d.age (first c)
block_gives n (held.OffDelay d) c = off_told d.left (first c)
block_gives n (held.Feedback f) c = f.on

-- what contracts see of a block
pub record BlockView : Type 0 where
  pub kind : BlockKind
  pub n : ℕ
  pub held : Held

-- a block after one more cycle
abbrev pub next_block : BlockView → Cycle → BlockView
next_block v c = record v { held = next_held v.n v.held c }
