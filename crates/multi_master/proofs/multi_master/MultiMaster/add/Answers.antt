use Rattle.multi_master.proofs.Adding.{adds_new}
use Rattle.std.proofs.Common.{refl}
use Rattle.std.proofs.Math.Seq.{take-append_seam}
use Rattle.multi_master.proofs.multi_master.MultiMaster.add.Goals as goal

pub returns-clause-stands : goal.returns-clause-stands
returns-clause-stands g c =
    let made = c.in-Ok.ensures in
    rw (← c.self.view_is) (adds_new _ _ _ _ _ made.added refl (rw made.changed refl))

pub returns-clause-others : goal.returns-clause-others
returns-clause-others g c = rw (← c.self.view_is, c.in-Ok.ensures.added.masters_are) (take-append_seam _ _)
