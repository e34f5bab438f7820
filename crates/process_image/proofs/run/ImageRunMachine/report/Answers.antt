use Rattle.process_image.proofs.Common.{DoesEvent, FitsImages, ImagesView, RunView, waits}
use Rattle.std.proofs.Common.{◌≡◌, ◌++◌, ℕ, List, sym, ap, subst, ◌∙◌}
use Rattle.process_image.proofs.Runs.{run_fits, takes_more}
use Rattle.process_image.proofs.run.ImageRunMachine.report.Goals as goal

pub take-requires-clause-fits : goal.take-requires-clause-fits
take-requires-clause-fits c =
    subst (λ (m : ImagesView). FitsImages m c.args.event.now) (sym (ap (λ (v : RunView). v.images) c.self.view_is))
    (run_fits c.args.self.now.images c.requires.1.heading c.requires.1.log c.requires.1.text c.args.event.now c.requires.1.stands c.requires.1.said)

pub returns-clause-takes_event : goal.returns-clause-takes_event
returns-clause-takes_event c = λ first. record {
  takes = λ h log text number stands.
      let piece : List ℕ = c.take.new.text ++ c.take.new.self.waiting.text in
      let d : DoesEvent c.args.self.now.images c.args.event.now c.args.number c.take.new.self.images piece =
      subst (λ (m : ImagesView). DoesEvent m c.args.event.now c.args.number c.take.new.self.images piece) (ap (λ (v : RunView). v.images) c.self.view_is) c.take.ensures
      in
      let is : waits c.start.new.self ≡ c.take.new.self.waiting.text = ap waits c.start.ensures.text ∙ ap (λ (v : RunView). v.waiting.text) c.self-2.view_is in
      rw (ap (λ (v : RunView). v.images) c.self-2.view_is, is) (takes_more c.args.self.now.images c.take.new.self.images h log text piece c.args.event.now c.args.number d number stands);
}
