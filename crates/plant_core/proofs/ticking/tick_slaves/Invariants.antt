use Rattle.plant_core.proofs.Common.{SlaveTicks}
use Rattle.std.proofs.Common.{◌≡◌, vec_len}
use Rattle.plant_core.proofs.Acting.{EachTo}
use Rattle.plant_core.proofs.ticking.tick_slaves.Given as goal

abbrev pub invariant-loop-i : goal.invariant-loop-i
invariant-loop-i g l = record {
  acted : EachTo SlaveTicks l.i l.initial.links.items l.links.items (g.C.Channel.told l.initial.channel) (g.C.Channel.told l.channel);
  named : g.C.Channel.name l.channel ≡ g.C.Channel.name l.initial.channel;
  count : vec_len l.links ≡ vec_len l.initial.links;
}
