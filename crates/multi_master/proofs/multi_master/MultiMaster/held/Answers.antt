use Rattle.multi_master.proofs.Reading.{shown_at}
use Rattle.multi_master.proofs.multi_master.MultiMaster.held.Goals as goal

pub returns : goal.returns
returns g c = shown_at g.A.Application.rule g.A.Application.holds g.A.Application.guards _ _ _ _ _ _ _ c.held.ensures.shown c.index.ensures c.from.ensures c.self.view_is c.requires
