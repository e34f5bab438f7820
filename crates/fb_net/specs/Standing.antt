-- A net stands for the cycles that it had, newest first: it doesn't keep them, and answers what looking back over them
-- says.
use Rattle.std.specs.Prelude.{◌≡◌, ℕ, Bool, false, List, [], ◌∷◌}
use Rattle.failsafe_io.specs.Bits.{at_number}
use Rattle.fb_lib.specs.Standing.{BlockStands}
use Rattle.fb_net.specs.BlockSpec.{BlockSpec}
use Rattle.fb_net.specs.Values.{NetCycle, block_cycles, with_block, shown_values}
use Rattle.fb_net.specs.Outputs.{net_outputs}
use Rattle.fb_net.specs.NetView.{NetView, net_block, plan}
use Rattle.fb_net.specs.Ready.{AllReady}

-- each block stands for its own cycles, where `before` gives the values of the blocks before them
abbrev pub BlocksStand : (List NetCycle → List Bool) → List BlockSpec → List NetCycle → Type 0
BlocksStand before [] e = Unit {0}
BlocksStand before (b ∷ bs) e =
    BlockStands b.block.kind b.block.n b.block (block_cycles before b.ins e) × BlocksStand (with_block before (net_block b)) bs e

-- a net stands for these cycles where each of its blocks stands for its own, and the values are those of the newest
pub record NetStands (v : NetView) (e : List NetCycle) : Type 0 where
  pub blocks : BlocksStand (λ _. []) v.blocks e
  pub values_are : v.values ≡ shown_values (plan v.blocks) e

-- blocks can be stepped, and stand for some cycles
pub record CanRun (bs : List BlockSpec) : Type 0 where
  pub ready : AllReady (plan bs)
  pub past : List NetCycle
  pub stands : BlocksStand (λ _. []) bs past

-- a net had no cycle, and its blocks can be stepped
pub record IsNewNet (v : NetView) : Type 0 where
  pub ready : AllReady (plan v.blocks)
  pub stands : NetStands v []

-- a net that stood for some cycles stands for these and the one that it has
pub record NetFollows (old : NetView) (c : NetCycle) (new : NetView) : Type 0 where
  pub stands : (e : List NetCycle) → NetStands old e → NetStands new (c ∷ e)

-- the outputs of a cycle, of these lengths, are what the blocks' values say by looking back over the cycles for which
-- the net stood, and this one
pub record NetGives (old : NetView) (c : NetCycle) (lens : List ℕ) (outputs : List (List ℕ)) : Type 0 where
  pub gives : (e : List NetCycle) → NetStands old e → outputs ≡ net_outputs old (c ∷ e) lens

-- what is shown is the value of the block with this number by looking back over the cycles for which the net stands
pub record ShowsValue (v : NetView) (number : ℕ) (shown : Bool) : Type 0 where
  pub shows : (e : List NetCycle) → NetStands v e → shown ≡ at_number (shown_values (plan v.blocks) e) number false

-- a net keeps what it was made of
pub record KeepsPlan (old new : NetView) : Type 0 where
  pub plan : plan new.blocks ≡ plan old.blocks
  pub drives : new.drives ≡ old.drives
