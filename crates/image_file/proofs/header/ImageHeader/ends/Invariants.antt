use Rattle.image_file.proofs.Common.{end_terms}
use Rattle.std.proofs.Common.{◌≡◌, map, take}
use Rattle.arrayvec.specs.ArrayVec.{array_vec_len}
use Rattle.image_file.proofs.header.ImageHeader.ends.Given as goal

abbrev pub invariant-loop-slot : goal.invariant-loop-slot
invariant-loop-slot l = record {
  ends : l.ends.items ≡ map end_terms (take l.slot-index l.slot-items);
  len : array_vec_len l.ends ≡ l.slot-index;
}
