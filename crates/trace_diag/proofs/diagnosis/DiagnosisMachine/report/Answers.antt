use Rattle.trace_diag.proofs.Common.{NotesFrame, takes_one}
use Rattle.std.proofs.Common.{ℕ, List, subst, rules}
use Rattle.trace_diag.proofs.Inputs.{few_noted, takes_frame}
use Rattle.trace_diag.proofs.diagnosis.DiagnosisMachine.report.Goals as goal

pub note-requires-clause-frame : goal.note-requires-clause-frame
note-requires-clause-frame c = search rules

pub note-requires-clause-few : goal.note-requires-clause-few
note-requires-clause-few c = few_noted c.args.self.now.trace c.args.event.now c.args.number c.requires.1

pub returns-clause-takes_event : goal.returns-clause-takes_event
returns-clause-takes_event c = λ first.
    takes_one _ _ c.args.event.now c.args.number c.clear.new.self
    (takes_frame c.args.self.now.trace c.note.new.self c.args.event.now c.args.number c.clear.new.self
    (subst (λ (bytes : List ℕ). NotesFrame c.args.self.now.trace (record { from = c.args.event.now.from; frame = bytes }) c.note.new.self) c.bytes.ensures.value c.note.ensures.notes)
    c.clear.ensures)
