-- What a place ends as whose controller is lent.
use Rattle.std.specs.Prelude.{Some}
use Rattle.std.specs.Borrow.{Lends, MutBor, Fml}
use Rattle.controller_c.specs.ControllerView.{ControllerView}
use Rattle.controller_c.specs.contracts.controller_place.ControllerPlace.{the_row as place_row}
use Rattle.controller_c.specs.contracts.controller_room.ControllerRoom.{the_row as room_row}
use Rattle.controller_c.specs.declared.controller_place.ControllerPlace.{ControllerPlace}

-- once the controller is no longer lent, the place holds it as it was left
abbrev pub lends_controller : MutBor ControllerPlace → MutBor ControllerView → Fml
lends_controller place controller = Lends place_row room_row place controller (λ left. record place.now { controller = Some left })
