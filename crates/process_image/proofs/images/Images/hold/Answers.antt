use Rattle.std.proofs.Common.{◌-◌, refl, arith, rules}
use Rattle.param_load.specs.declared.entry.Move.TheVariants as move
use Rattle.image_file.specs.declared.event.ImageEvent.TheVariants as event
use Rattle.process_image.proofs.Counts.{seat_there}
use Rattle.process_image.proofs.Set.{set_follows, set_sound, set_setups}
use Rattle.process_image.proofs.images.Images.hold.Goals as goal

pub invariant_of-self : goal.invariant_of-self
invariant_of-self c = search (rules, seat_there, set_sound)

pub returns-clause-follows : goal.returns-clause-follows
returns-clause-follows c =
    set_follows _ _ _ c.args.slot (c.from.result - 1) (move.Hold c.args.failsafe) (event.Hold c.args.slot c.args.failsafe) c.index_mut.result.now c.hold.new.self c.self.view_is c.self.invariant (omega arith) c.requires c.index_mut.ensures.value tt
    (λ size p calls. refl) (λ size calls. refl) (λ size calls. refl) c.hold.ensures.follows c.hold.ensures.setup c.hold.ensures.rest refl refl refl

pub returns-clause-keeps : goal.returns-clause-keeps
returns-clause-keeps c = record { setups = search (rules, seat_there, set_setups); size_in = search rules; size_out = search rules }
