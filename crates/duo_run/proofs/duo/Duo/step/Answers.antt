use Rattle.duo_run.proofs.Common.{Misses}
use Rattle.std.proofs.Common.{rules}
use Rattle.duo_run.proofs.Pair.Stepped.{misses_by, steps_by}
use Rattle.duo_run.proofs.duo.Duo.step.Goals as goal

pub returns-clause-steps : goal.returns-clause-steps
returns-clause-steps c =
    steps_by c.args.self.now c.args.event.now c.end_of-at.result c.in_ok-what.what c.advance.new.answer.did c.advance.new.answer.sent c.state_of.result c.set.new.self c.copied.result c.advance.new.self c.end_of-at.ensures c.requires.fits.0
    (rw c.heard.ensures at c.in_ok-what.ensures.found) c.in_ok-advance.ensures.advances c.state_of.ensures (rw (← c.set.ensures) at c.outputs_of.ensures.shown) (rw (← c.copied.ensures) at c.terms_of.ensures)

pub returns-in_err-what-clause-misses : goal.returns-in_err-what-clause-misses
returns-in_err-what-clause-misses c =
    let misses : Misses c.args.self.now c.args.event.now = misses_by c.end_of-at.result c.args.self.now c.args.event.now c.end_of-at.ensures c.requires.fits.0 (rw c.heard.ensures at c.in_err-what.ensures.missed) in
    search rules
