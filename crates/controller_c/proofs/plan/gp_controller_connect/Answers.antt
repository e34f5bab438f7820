use Rattle.std.proofs.Common.{◌≡◌, ap, ◌∙◌}
use Rattle.c_values.proofs.Places.{there_is}
use Rattle.multi_master.specs.Standing.{links}
use Rattle.controller_c.specs.ControllerView.{ControllerView}
use Rattle.controller_c.proofs.Making.{refused}
use Rattle.controller_c.proofs.plan.gp_controller_connect.Goals as goal

pub returns-in-Ok-connect-clause-connects : goal.returns-in-Ok-connect-clause-connects
returns-in-Ok-connect-clause-connects c = λ _ old held new left.
    let was : c.lend-room.result.now ≡ old = there_is _ _ _ c.lend-room.ensures.value.0 held in
    let is : c.connect.new.self ≡ new = cc in
    rw (← was, ← is) (record {
      own = c.in-Ok.settings;
      set_so = rw (← c.in-Some.ensures.bytes) c.in-Ok.ensures.settings;
      connects = c.in-Ok-connect.ensures.connects;
      number_is = c.links.ensures.count ∙ ap (λ (v : ControllerView). links v.multi) c.room-2.view_is;
    })

pub returns-in-Err-connect-clause-answer : goal.returns-in-Err-connect-clause-answer
returns-in-Err-connect-clause-answer c =
    let e = c.in-Err-connect.ensures in
    rw c.connection_number.ensures (refused _ _ _ _ _ c.in-Ok.settings c.in-Err-connect.fault c.lend-room.ensures.value.0 (cc) c.in-Some.ensures.none c.in-Ok.ensures.good c.in-Ok.ensures.settings e.refused e.memory_alone).otherwise

pub returns-in-Err-connect-clause-memory_alone : goal.returns-in-Err-connect-clause-memory_alone
returns-in-Err-connect-clause-memory_alone c =
    let e = c.in-Err-connect.ensures in
    rw c.connection_number.ensures (refused _ _ _ _ _ c.in-Ok.settings c.in-Err-connect.fault c.lend-room.ensures.value.0 (cc) c.in-Some.ensures.none c.in-Ok.ensures.good c.in-Ok.ensures.settings e.refused e.memory_alone).memory
