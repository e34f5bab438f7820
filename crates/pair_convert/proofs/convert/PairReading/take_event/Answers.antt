use Rattle.pair_convert.proofs.Common.{Ok}
use Rattle.std.proofs.Common.{ap, refl, ◌∙◌}
use Rattle.pair_convert.proofs.Conversion.Converting.{taken_as}
use Rattle.pair_convert.proofs.convert.PairReading.take_event.Goals as goal

pub returns-in-Err-clause-takes : goal.returns-in-Err-clause-takes
returns-in-Err-clause-takes c =
    let lengths = c.lengths-lengths in
    let profiles = c.profiles-profiles in
    taken_as lengths.result profiles.result c.self.inside.header c.self.inside.events _ c.args.line.now _ _ c.self.view_is lengths.ensures.master lengths.ensures.slave profiles.ensures.master profiles.ensures.slave c.in-Err.ensures.value refl

pub returns-in-Step-clause-takes : goal.returns-in-Step-clause-takes
returns-in-Step-clause-takes c =
    let lengths = c.lengths-lengths in
    let profiles = c.profiles-profiles in
    taken_as lengths.result profiles.result c.self.inside.header c.self.inside.events _ c.args.line.now _ _ c.self.view_is lengths.ensures.master lengths.ensures.slave profiles.ensures.master profiles.ensures.slave (c.in_default.ensures.value ∙ ap Ok c.in-Step.is)
    (rw c.write_event_line.ensures)

pub returns-in-End-clause-takes : goal.returns-in-End-clause-takes
returns-in-End-clause-takes c =
    let lengths = c.lengths-lengths in
    let profiles = c.profiles-profiles in
    taken_as lengths.result profiles.result c.self.inside.header c.self.inside.events _ c.args.line.now _ _ c.self.view_is lengths.ensures.master lengths.ensures.slave profiles.ensures.master profiles.ensures.slave (c.in_default.ensures.value ∙ ap Ok c.in-End.is)
    (rw c.write_last_line.ensures)
