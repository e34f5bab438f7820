use Rattle.multi_master.proofs.Common.{common_steps, length-map}
use Rattle.std.proofs.Common.{◌≡◌, length, refl, arith, rules}
use Rattle.multi_master.proofs.multi_master.MultiMaster.connect.Goals as goal

pub invariant_of-self : goal.invariant_of-self
invariant_of-self g c =
    let h = c.in-Ok.ensures.settings_are in
    let links : length c.in-Ok.connections.masters.items ≡ length c.args.settings.items = grind (arith, common_steps) in
    search (rules, length-map)

pub returns-clause-stands : goal.returns-clause-stands
returns-clause-stands g c =
    let made = c.in-Ok.ensures in
    rw (← c.self.view_is) (record { masters = made.stand; app_is = refl; inputs_are = made.inputs_are; changed_are = made.unchanged; sound = tt })
