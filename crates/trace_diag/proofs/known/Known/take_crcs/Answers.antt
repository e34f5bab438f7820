use Rattle.trace_diag.proofs.Common.{Frame, chain_after, first_differing}
use Rattle.std.proofs.Common.{◌≡◌, sym, ap, ◌∙◌, rules}
use Rattle.trace_diag.proofs.DueMade.{due_long, due_read, due_same, due_same_many, due_where}
use Rattle.trace_diag.proofs.NoneApplies.{same_none}
use Rattle.trace_diag.proofs.known.Known.take_crcs.Goals as goal

pub returns-then-eq-clause-group : goal.returns-then-eq-clause-group
returns-then-eq-clause-group c =
    let same : c.bytes.result.now ≡ c.bytes-2.result.now = search rules in
    sym (same_none 0 c.args.view.now.crcs) ∙ ap (λ (due : Frame). first_differing 0 c.args.view.now.crcs due.crcs) (sym (due_same c.args.self.now c.args.self.now.turn c.args.view.now c.args.load.now c.bytes.result.now (c.bytes.ensures.value ∙ c.seal_due.ensures.made) c.requires.load c.requires.valid c.requires.groups (same ∙ c.bytes-2.ensures.value)))

pub returns-then-eq-clause-chain : goal.returns-then-eq-clause-chain
returns-then-eq-clause-chain c = λ none.
    let same : c.bytes.result.now ≡ c.bytes-2.result.now = search rules in
    c.seal_due.ensures.chain ∙ ap (λ (f : Frame). record c.args.self.now { chain = chain_after c.args.self.now.due c.args.self.now.chain c.args.self.now.turn f }) (due_same c.args.self.now c.args.self.now.turn c.args.view.now c.args.load.now c.bytes.result.now (c.bytes.ensures.value ∙ c.seal_due.ensures.made) c.requires.load c.requires.valid c.requires.groups (same ∙ c.bytes-2.ensures.value))

pub returns-in_default : goal.returns-in_default
returns-in_default c = absurd (cc (c.in_default.ensures.some.1 (due_long c.args.self.now c.args.self.now.turn c.args.view.now c.args.load.now c.bytes-3.result.now (c.bytes-3.ensures.value ∙ c.seal_due.ensures.made) c.requires.load c.requires.valid)))

pub wrong_crc-requires-clause-same_many : goal.wrong_crc-requires-clause-same_many
wrong_crc-requires-clause-same_many c = due_same_many c.args.self.now c.args.self.now.turn c.args.view.now c.args.load.now c.in-Some.due (c.in-Some.ensures.frame ∙ due_read c.args.self.now c.args.self.now.turn c.args.view.now c.args.load.now c.bytes-3.result.now (c.bytes-3.ensures.value ∙ c.seal_due.ensures.made) c.requires.load c.requires.valid) c.requires.load c.requires.valid c.requires.groups

pub returns-clause-group : goal.returns-clause-group
returns-clause-group c = c.wrong_crc.ensures.place ∙ ap (λ (due : Frame). first_differing 0 c.args.view.now.crcs due.crcs) (c.in-Some.ensures.frame ∙ due_read c.args.self.now c.args.self.now.turn c.args.view.now c.args.load.now c.bytes-3.result.now (c.bytes-3.ensures.value ∙ c.seal_due.ensures.made) c.requires.load c.requires.valid)

pub returns-clause-chain : goal.returns-clause-chain
returns-clause-chain c = λ none.
    c.seal_due.ensures.chain
    ∙ ap (λ (f : Frame). record c.args.self.now { chain = chain_after c.args.self.now.due c.args.self.now.chain c.args.self.now.turn f })
    (due_where c.args.self.now c.args.self.now.turn c.args.view.now c.args.load.now c.in-Some.due (c.in-Some.ensures.frame ∙ due_read c.args.self.now c.args.self.now.turn c.args.view.now c.args.load.now c.bytes-3.result.now (c.bytes-3.ensures.value ∙ c.seal_due.ensures.made) c.requires.load c.requires.valid) c.requires.load c.requires.valid c.requires.groups (sym c.wrong_crc.ensures.place ∙ none))
