use Rattle.process_image.proofs.Common.{Setup, sends}
use Rattle.std.proofs.Common.{◌≡◌, ◌-◌, length, refl, arith, rules}
use Rattle.param_load.specs.declared.entry.Move.TheVariants as move
use Rattle.image_file.specs.declared.event.ImageEvent.TheVariants as event
use Rattle.process_image.proofs.Counts.{seat_there}
use Rattle.process_image.proofs.Set.{own_setup, set_follows, set_sound, set_setups}
use Rattle.process_image.proofs.images.Images.put.Goals as goal

pub put-requires-clause-len : goal.put-requires-clause-len
put-requires-clause-len c =
    own_setup _ _ c.args.slot (c.from.result - 1) c.index_mut.result.now (λ (s : Setup). length c.args.load.now ≡ sends s) c.self.view_is (omega arith) c.requires.slot c.index_mut.ensures.value c.requires.len

pub invariant_of-self : goal.invariant_of-self
invariant_of-self c = search (rules, seat_there, set_sound)

pub returns-clause-follows : goal.returns-clause-follows
returns-clause-follows c =
    set_follows _ _ _ c.args.slot (c.from.result - 1) (move.Put c.args.load.now) (event.Put c.args.slot c.args.load.now) c.index_mut.result.now c.put.new.self c.self.view_is c.self.invariant (omega arith) c.requires.slot c.index_mut.ensures.value tt
    (λ size p calls. refl) (λ size calls. refl) (λ size calls. refl) c.put.ensures.follows c.put.ensures.setup c.put.ensures.rest refl refl refl

pub returns-clause-keeps : goal.returns-clause-keeps
returns-clause-keeps c = record { setups = search (rules, seat_there, set_setups); size_in = search rules; size_out = search rules }
