use Rattle.fb_net.proofs.Common.{run_blocks, run_values}
use Rattle.std.proofs.Common.{◌≡◌, ◌++◌, [], take, drop}
use Rattle.fb_net.proofs.cycle.run_blocks.Given as goal

abbrev pub invariant-loop-i : goal.invariant-loop-i
invariant-loop-i _ l = record {
  rest : drop l.i l.blocks ≡ drop l.i l.fn.blocks;
  values : run_values (take l.i l.values) (record { ticked = l.ticked; inputs = l.inputs }) (drop l.i l.fn.blocks)
      ≡ run_values [] (record { ticked = l.ticked; inputs = l.inputs }) l.fn.blocks;
  blocks : take l.i l.blocks ++ run_blocks (take l.i l.values) (record { ticked = l.ticked; inputs = l.inputs }) (drop l.i l.fn.blocks)
      ≡ run_blocks [] (record { ticked = l.ticked; inputs = l.inputs }) l.fn.blocks;
}
