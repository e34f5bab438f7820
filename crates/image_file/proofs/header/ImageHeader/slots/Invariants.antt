use Rattle.image_file.proofs.Common.{AllZip, IsMadeOf}
use Rattle.std.proofs.Common.{◌≡◌, ◌<◌, length, take}
use Rattle.std.specs.Prelude.{vec_capacity, vec_len}
use Rattle.image_file.proofs.header.ImageHeader.slots.Given as goal

abbrev pub invariant-loop-slot : goal.invariant-loop-slot
invariant-loop-slot l = record {
  made : AllZip IsMadeOf (take l.slot-index l.slot-items) l.slots.items;
  len : vec_len l.slots ≡ l.slot-index;
  room : length l.slot-items < vec_capacity l.slots;
}
