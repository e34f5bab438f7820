use Rattle.plant_core.proofs.Common.{AreNoted, fixed_in, seen}
use Rattle.std.proofs.Common.{◌≡◌, ◌≤◌, ◌+◌, ◌*◌, take, vec_len, vec_capacity}
use Rattle.plant_core.proofs.Offering.{OffersOf}
use Rattle.plant_core.proofs.offers.note_offers.Given as goal

abbrev pub invariant-loop-i : goal.invariant-loop-i
invariant-loop-i g l = record {
  offers : OffersOf (seen g.A.Application.rule g.A.Application.holds g.A.Application.guards l.master) (take l.i l.changed) l.initial.links.items l.links.items l.initial.steps.items l.steps.items;
  noted : AreNoted (2 * vec_len l.steps) l.links.items;
  fixed : fixed_in l.links.items ≡ fixed_in l.initial.links.items;
  count : vec_len l.links ≡ vec_len l.initial.links;
  len : vec_len l.steps ≡ vec_len l.initial.steps + l.i;
  capacity : vec_capacity l.initial.steps ≤ vec_capacity l.steps;
}
