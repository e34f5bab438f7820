-- How each slot does its part of a call.
use Rattle.std.specs.Prelude.{◌≡◌, ℕ, ◌==◌, List, [], ◌∷◌, map, length, All, Option, Some, None, option_map, if◌then◌else◌}
use Rattle.fsoe_base.specs.declared.did.Did.{Did}
use Rattle.param_load.specs.declared.entry.Move.{Move}
use Rattle.end_core.specs.Core.{setup_of, IsAtRest}
use Rattle.end_core.specs.Standing.{Follows, Answers}
use Rattle.process_image.specs.Calls.{slot_delivery}
use Rattle.process_image.specs.Image.{bytes_at, with_bytes}
use Rattle.process_image.specs.declared.seat.Seat.{Seat}

-- a slot at a call: before it and after it, the move of it that the call is, if it is one, and then what its end did
-- and sent
pub record SeatStep : Type 0 where
  pub old : Seat
  pub what : Option Move
  pub did : Did
  pub sent : List ℕ
  pub new : Seat

-- the end goes on by the move and answers so, or stays as it is and sends nothing
abbrev pub Makes : Option Move → SeatStep → Type 0
Makes None x = (x.new.core ≡ x.old.core) × (x.sent ≡ [])
Makes (Some what) x = Follows x.old.core what x.new.core × Answers x.old.core what x.did x.sent

-- so it is done, and the slot stays where it is
pub record IsSeatStep (x : SeatStep) : Type 0 where
  pub makes : Makes x.what x
  pub at_in_is : x.new.at_in ≡ x.old.at_in
  pub at_out_is : x.new.at_out ≡ x.old.at_out
  pub len_out_is : x.new.len_out ≡ x.old.len_out
  pub seen_len : length x.new.seen ≡ length x.old.seen
  pub setup : setup_of x.new.core ≡ setup_of x.old.core
  pub rest : IsAtRest x.new.core

-- the output image with a frame that the end of a slot sent, in its place; where it sent none there are no bytes, and
-- it stays
abbrev pub with_sent : Seat → List ℕ → List ℕ → List ℕ
with_sent seat sent image = if length sent == seat.len_out then with_bytes seat.at_out sent image else image

-- the output image after these steps, the first of which comes first
abbrev pub after_steps : List SeatStep → List ℕ → List ℕ
after_steps [] image = image
after_steps (x ∷ steps) image = after_steps steps (with_sent x.old x.sent image)

-- what a step tells: what the end did, if the call was a move of it
abbrev pub told_by : SeatStep → Option Did
told_by x = option_map (λ what. x.did) x.what

-- the contents of a slot in this input image
abbrev pub seat_contents : Seat → List ℕ → List ℕ
seat_contents seat input = bytes_at seat.at_in (length seat.seen) input

-- a sample of this input image at a slot: its contents are delivered where it didn't see them, and it saw them then
pub record IsSampleStep (input : List ℕ) (x : SeatStep) : Type 0 where
  pub is : IsSeatStep x
  pub what_is : x.what ≡ slot_delivery x.old.seen (seat_contents x.old input)
  pub seen_is : x.new.seen ≡ seat_contents x.old input

-- this move of a slot, at which nothing is sampled
pub record IsStepOf (what : Move) (x : SeatStep) : Type 0 where
  pub is : IsSeatStep x
  pub what_is : x.what ≡ Some what
  pub seen_is : x.new.seen ≡ x.old.seen

-- one slot does its part by a step of this kind, and tells this of it
pub record Does {T : Type 0} (Q : SeatStep → Type 0) (tell : SeatStep → T) (old : Seat) (before : List ℕ) (new : Seat) (after : List ℕ) (told : T) : Type 0 where
  pub step : SeatStep
  pub is : Q step
  pub old_is : step.old ≡ old
  pub new_is : step.new ≡ new
  pub told_is : told ≡ tell step
  pub output_is : after ≡ with_sent old step.sent before

-- all slots do, one after another
pub record DoesEach {T : Type 0} (Q : SeatStep → Type 0) (tell : SeatStep → T) (old : List Seat) (before : List ℕ) (new : List Seat) (after : List ℕ) (told : List T) : Type 0 where
  pub steps : List SeatStep
  pub each : All Q steps
  pub old_are : map (λ x. x.old) steps ≡ old
  pub new_are : map (λ x. x.new) steps ≡ new
  pub told_are : told ≡ map tell steps
  pub output_is : after ≡ after_steps steps before

-- what a tick tells of a step
abbrev pub did_in : SeatStep → Did
did_in x = x.did
