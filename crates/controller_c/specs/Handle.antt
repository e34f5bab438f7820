-- When a handle of a controller may be handed in, and what is known of the controller behind it.
use Rattle.std.specs.Prelude.{◌≡◌, ℕ, Option, Some, None, is_some, if◌then◌else◌}
use Rattle.c_values.specs.declared.numbers.TheConstants.{OK, NO_END, BUSY, NO_ROOM}
use Rattle.c_values.specs.Place.{has_memory}
use Rattle.controller_c.specs.ControllerView.{ControllerView}
use Rattle.controller_c.specs.declared.controller.GpController.{GpController}

-- the flag says whether a controller is there
abbrev pub IsSoundController : GpController → Type 0
IsSoundController handle = handle.live ≡ is_some handle.place.controller

-- the answer of a call by the controller that is there, if one is
abbrev pub answer_by : Option ControllerView → (ControllerView → ℕ) → ℕ
answer_by None answer = NO_END
answer_by (Some controller) answer = answer controller

-- whether a controller can't be made behind this handle, but for no memory in its region
abbrev pub open_answer : GpController → ℕ
open_answer handle = if handle.live then BUSY else if has_memory handle.place.at then OK else NO_ROOM
