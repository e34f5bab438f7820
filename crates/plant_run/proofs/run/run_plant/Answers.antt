use Rattle.std.proofs.Common.{◌≡◌, ◌∙◌, ap, sym}
use Rattle.plant_run.proofs.RanPlant.{left_so, ran_plant}
use Rattle.plant_run.proofs.run.run_plant.Goals as goal

pub returns : goal.returns
returns g c =
    let leaves = c.run_over-ended.ensures.leaves in
    let told : c.channel-1.given.0 ≡ c.run_over-ended.new.handed.channel.now =
    c.channel-1.given.1 (sym (left_so _ _ _ _ _ _ leaves (λ same. ap (λ given. given.channel.ghost_name) same) (λ h log text stands. stands.1.0.0)))
    in
    let done : c.plant-2-1.given.0 ≡ c.run_over-ended.new.handed.plant.now =
    c.plant-2-1.given.1 (sym (left_so _ _ _ _ _ _ leaves (λ same. ap (λ given. given.plant.ghost_name) same) (λ h log text stands. stands.1.0.1)))
    in
    record {
      name_stays = rw told (left_so _ _ _ _ _ _ leaves (λ same. ap (λ given. g.C.Channel.name given.channel.now) same) (λ h log text stands. stands.1.0.2));
      ran =
          rw (c.into_journal.ensures, told, done)
          (rw c.unbegun-plant.ensures.app at (ran_plant _ c.run_over-ended.ensures.ran leaves
          (λ same. (ap (λ given. g.C.Channel.told given.channel.now) same, ap (λ given. given.plant.now.journal) same ∙ c.unbegun-plant.ensures.journal)) (λ h log text stands. (_, stands.1.2))));
    }
