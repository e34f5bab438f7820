-- The kinds of blocks.
use Rattle.std.specs.Prelude.{ℕ, ◌==◌, nat_le, Bool, ◌&&◌}
use Rattle.fb_lib.specs.declared.kind.BlockKind.{BlockKind}
use Rattle.fb_lib.specs.declared.kind.BlockKind.TheVariants as kind

-- the most inputs of a block
abbrev pub most_inputs : ℕ
most_inputs = 8

-- whether a block of this kind may have so many inputs
abbrev pub takes_inputs : BlockKind → ℕ → Bool
takes_inputs kind.Const0 n = n == 0
takes_inputs kind.Const1 n = n == 0
takes_inputs kind.And n = nat_le 1 n && nat_le n most_inputs
takes_inputs kind.Or n = nat_le 1 n && nat_le n most_inputs
takes_inputs kind.Latch n = n == 2
takes_inputs kind.Estop n = n == 2
takes_inputs kind.TwoHand n = n == 2
takes_inputs kind.OnDelay n = n == 1
takes_inputs kind.OffDelay n = n == 1
takes_inputs kind.Feedback n = n == 2
