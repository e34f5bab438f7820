use Rattle.trace_diag.proofs.Common.{TraceView, settings_by}
use Rattle.std.proofs.Common.{ap, sym, ◌∙◌}
use Rattle.trace_diag.proofs.Judging.{verdict_conforms, verdict_differs}
use Rattle.trace_diag.proofs.trace.Trace.verdict.Goals as goal

pub returns-in-Some : goal.returns-in-Some
returns-in-Some c = λ lengths t s. verdict_differs lengths t c.args.self.now c.in-Some.difference (ap (λ (v : TraceView). v.differs) (sym c.self.view_is) ∙ c.in-Some.is) s

pub returns-in-None : goal.returns-in-None
returns-in-None c = λ lengths t s.
    verdict_conforms lengths t c.args.self.now c.read_off.result (ap (λ (v : TraceView). v.differs) (sym c.self.view_is) ∙ c.in-None.is)
    (c.read_off.ensures ∙ ap (λ (v : TraceView). settings_by v.known.connection v.known.parameters) c.self.view_is) s
