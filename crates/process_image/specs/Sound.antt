-- What always holds of images, so that each call may look at their bytes.
use Rattle.std.specs.Prelude.{◌≡◌, ◌≤◌, ◌+◌, ℕ, length, replicate, All}
use Rattle.fsoe_base.specs.Lengths.{frame_len}
use Rattle.end_model.specs.Setup.{sends, receives}
use Rattle.end_core.specs.Core.{setup_of, IsAtRest}
use Rattle.image_file.specs.Places.{most_slots}
use Rattle.process_image.specs.Standing.{ImagesView}
use Rattle.process_image.specs.declared.seat.Seat.{Seat}
use Rattle.image_file.specs.declared.slot.Slot.{Slot}

-- the end of a slot may send: it is at rest, and its frames lie inside an output image of this size
pub record MaySend (size_out : ℕ) (seat : Seat) : Type 0 where
  pub rest : IsAtRest seat.core
  pub inside : seat.at_out + seat.len_out ≤ size_out

-- the end of a slot is at rest, what it saw has the length of the frames that come, and its frames lie inside images of
-- these sizes
pub record IsSoundSeat (size_in size_out : ℕ) (seat : Seat) : Type 0 where
  pub rest : IsAtRest seat.core
  pub seen_len : length seat.seen ≡ frame_len (receives (setup_of seat.core))
  pub len_out_is : seat.len_out ≡ frame_len (sends (setup_of seat.core))
  pub inside_in : seat.at_in + length seat.seen ≤ size_in
  pub inside_out : seat.at_out + seat.len_out ≤ size_out

-- so is each of at most 64 slots
pub record IsSound (v : ImagesView) : Type 0 where
  pub seats : All (IsSoundSeat (length v.input) (length v.output)) v.seats
  pub most : length v.seats ≤ most_slots

-- a slot as it is made of its end, of which nothing is sampled yet
pub record IsNewSeat (slot : Slot) (seat : Seat) : Type 0 where
  pub at_in_is : seat.at_in ≡ slot.at_in
  pub at_out_is : seat.at_out ≡ slot.at_out
  pub core_is : seat.core ≡ slot.core
  pub len_out_is : seat.len_out ≡ frame_len (sends (setup_of slot.core))
  pub seen_is : seat.seen ≡ replicate (frame_len (receives (setup_of slot.core))) 0
