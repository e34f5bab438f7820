use Rattle.std.proofs.Common.{◌∙◌, sym}
use Rattle.file_run.proofs.Found.{refused_event_line}
use Rattle.file_run.proofs.Taken.{took_one}
use Rattle.file_run.proofs.event.next_event.Goals as goal

pub returns-in-Err-clause-finds : goal.returns-in-Err-clause-finds
returns-in-Err-clause-finds g c =
    let line = c.in_ok-next_line.ensures.finds in
    λ k. refused_event_line (g.F.Format.format k).event _ c.args.full _ _ _ c.in-Err.cause line.0 line.1 (sym (rw c.line.ensures at (c.in-Err.ensures k)))

pub returns-in-Err-clause-goes : goal.returns-in-Err-clause-goes
returns-in-Err-clause-goes g c =
    let line = c.in_ok-next_line.ensures.finds in
    (c.lines.ensures ∙ c.in_ok-next_line.ensures.goes, took_one _ _ _ line.0 line.1)
