use Rattle.trace_diag.proofs.Common.{AreBytes, NotesFrame, TraceView}
use Rattle.std.proofs.Common.{◌≡◌, ◌+◌, arith, not, ap, sym, subst, ◌∙◌, None}
use Rattle.trace_diag.proofs.Judging.{none_where, noted_right}
use Rattle.trace_diag.proofs.trace.Trace.note.Goals as goal

pub returns-in_default-clause-notes : goal.returns-in_default-clause-notes
returns-in_default-clause-notes c =
    let old : TraceView = record { lengths = c.self.inside.lengths; frames = c.self.inside.frames; differs = c.self.inside.differs; known = c.self.inside.known } in
    let differs : c.self.inside.differs ≡ None = none_where c.self.inside.differs (c.is_none.ensures ∙ ap not c.if-is_none.true) in
    let field : c.take.result ≡ None = c.in_default.is in
    let are : AreBytes c.args.frame.now = λ i. (let fits = c.type_inv.frame i in omega arith) in
    subst (λ (v : TraceView). NotesFrame v (record { from = c.args.from; frame = c.args.frame.now }) (record { lengths = c.self.inside.lengths; frames = c.self.inside.frames + 1; differs = c.self.inside.differs; known = c.take.new.self })) c.self.view_is
    (noted_right old (record { from = c.args.from; frame = c.args.frame.now }) c.take.new.self are differs (sym c.take.ensures.field ∙ field) (c.take.ensures.kept field))
