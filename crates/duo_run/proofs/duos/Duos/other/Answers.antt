use Rattle.duo_run.proofs.Common.{Some, numbered}
use Rattle.std.proofs.Common.{◌≡◌, ◌-◌, arith}
use Rattle.duo_run.proofs.Pairs.At.{at_number}
use Rattle.duo_run.proofs.duos.Duos.other.Goals as goal

pub returns : goal.returns
returns c =
    let at : numbered c.args.pair c.args.self.now ≡ Some c.index.result.now =
    at_number c.self.inside.pairs.items _ _ (c.from.result - 1) _ c.self.view_is (omega arith) c.requires.first c.requires.last c.index.ensures
    in
    rw at c.other.ensures
