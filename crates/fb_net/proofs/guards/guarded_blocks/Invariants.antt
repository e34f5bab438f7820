use Rattle.fb_net.proofs.Common.{guarded_blocks, guarded_from, plan}
use Rattle.std.proofs.Common.{◌≡◌, length, drop}
use Rattle.fb_net.proofs.guards.guarded_blocks.Given as goal

abbrev pub invariant-loop-i : goal.invariant-loop-i
invariant-loop-i _ l = record {
  counted : length l.guarded.items ≡ l.i;
  guarded : guarded_from l.inp l.guarded.items (plan (drop l.i l.blocks)) ≡ guarded_blocks l.inp (plan l.blocks);
}
