use Rattle.process_image.proofs.Common.{common_steps, step, with_sent}
use Rattle.std.proofs.Common.{◌-◌, length, refl, ap, ◌∙◌, arith, rules}
use Rattle.param_load.specs.declared.entry.Move.TheVariants as move
use Rattle.image_file.specs.declared.event.ImageEvent.TheVariants as event
use Rattle.process_image.proofs.Counts.{seat_numbered, seat_there}
use Rattle.process_image.proofs.Keeping.{written_back}
use Rattle.process_image.proofs.One.{one_follows}
use Rattle.process_image.proofs.Reading.{shown_at}
use Rattle.process_image.proofs.Seats.{named_step, step_to}
use Rattle.process_image.proofs.Set.{set_setups, set_sound}
use Rattle.process_image.proofs.images.Images.reset.Goals as goal

pub invariant_of-self : goal.invariant_of-self
invariant_of-self c = search (rules, seat_there, written_back, set_sound)

pub returns-clause-follows : goal.returns-clause-follows
returns-clause-follows c =
    let at = seat_there _ _ c.args.slot (c.from.result - 1) c.index_mut-seat.result.now c.self.view_is (omega arith) c.requires c.index_mut-seat.ensures.value in
    let out = written_back c.give.new.output c.self.inside.output.items c.self.inside.output.len (cc) (cc) in
    rw (← c.self.view_is, out)
    (one_follows (length c.self.inside.input.items) (length c.self.inside.output.items) (c.from.result - 1) c.args.slot move.Local (event.Reset c.args.slot) _ _
    (step_to move.Local c.index_mut-seat.result.now c.reset-did.new.self c.index_mut-seat.result.now.seen c.reset-did.result c.reset-did.new.out) c.self.invariant.seats (omega arith) at
    (named_step move.Local c.index_mut-seat.result.now c.reset-did.new.self c.reset-did.result c.reset-did.new.out
    (record { follows = c.reset-did.ensures.follows; answers = c.reset-did.ensures.answers; setup = c.reset-did.ensures.setup; rest = c.reset-did.ensures.rest }))
    (λ size p calls. refl) (λ size calls. refl) (λ size calls. refl) refl refl
    (c.give.ensures ∙ ap (with_sent c.index_mut-seat.result.now c.reset-did.new.out) c.as_mut_slice.ensures.value))

pub returns-clause-answers : goal.returns-clause-answers
returns-clause-answers c =
    let at = seat_numbered _ _ c.args.slot (c.from.result - 1) c.index_mut-seat.result.now c.self.view_is (omega arith) c.requires c.index_mut-seat.ensures.value in
    shown_at _ c.args.slot c.index_mut-seat.result.now c.reset-did.result (λ s e. (step s e move.Local).did) at (record { shows = c.reset-did.ensures.answers.did })

pub returns-clause-keeps : goal.returns-clause-keeps
returns-clause-keeps c = record { setups = search (rules, seat_there, set_setups); size_in = search rules; size_out = grind (arith, common_steps) }
