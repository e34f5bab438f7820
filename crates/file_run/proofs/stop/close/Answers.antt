use Rattle.file_run.proofs.Common.{Grew, append-nil}
use Rattle.std.proofs.Common.{inl, refl, sym, subst, ◌∙◌}
use Rattle.file_run.proofs.stop.close.Goals as goal

pub returns-in-Ok-clause-writes : goal.returns-in-Ok-clause-writes
returns-in-Ok-clause-writes g c =
    let p = rw c.in-Ok.ensures.empty at c.in-Ok.ensures.puts in
    inl (refl, subst (Grew (g.K.Sink.written c.args.sink.now) (g.K.Sink.written c.finish.new.sink)) (sym (p.whole ∙ append-nil p.part)) p.grew, c.in-Ok.ensures.cause.stayed)
