use Rattle.std.proofs.Common.{ℕ, ◌+◌, refl}
use Rattle.multi_master.specs.Standing.{settings_of}
use Rattle.controller_c.proofs.Making.{one_listed}
use Rattle.controller_c.proofs.start.data_lengths.Goals as goal

pub loop-place-preserved : goal.loop-place-preserved
loop-place-preserved c =
    let place : ℕ = c.loop-place.place in (
      one_listed (λ s. s.lengths.slave) (settings_of c.args.multi.now) _ _ place (place + 1) _ c.settings-settings.result.now c.loop-place.invariant.0 c.settings-settings.ensures refl c.push.ensures.items c.peer_len.ensures.value,
      one_listed (λ s. s.lengths.master) (settings_of c.args.multi.now) _ _ place (place + 1) _ c.settings-settings.result.now c.loop-place.invariant.1 c.settings-settings.ensures refl c.push-in-loop-place.ensures.items c.own_len.ensures.value,
    )
