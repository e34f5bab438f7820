-- A plant tells whether a bound is still.
use Rattle.plant_core.proofs.Common.{Act, Beginning, BoundSpec, LinkView, OfSlave, PlantStands, PlantView, ShowsApp, TellsStill, bit_of, calls, deeds, held, is_drive_guarded, is_off, kept_at, next_offered, of_end, offer, offers_bit, pair, settings, slave_offers}
use Rattle.std.proofs.Common.{◌≡◌, ℕ, Bool, false, ◌&&◌, not, List, Some, sym, ap, ap₂, ◌∙◌, rules}
use Rattle.fsoe_base.specs.declared.command.End.TheVariants as side
use Rattle.slave_core.specs.Standing as slave_core
use Rattle.plant_model.proofs.KeptOff.{offers_is}
use Rattle.plant_core.proofs.Found.{found}

-- what the slave of a connection offers
offer_told : (v : PlantView) (bound : BoundSpec) (l : LinkView) (on : Bool) → Some l ≡ kept_at v.links bound.estop.link → slave_core.Shows l.slave on (λ s e. not (held e) && bit_of (offer s e) bound.estop.bit)
    → (b : Beginning) (acts : List Act) → PlantStands b v acts → not on ≡ is_off b bound.estop acts
offer_told v bound l on at s b acts h =
    let k : ℕ = bound.estop.link in
    let f = found b v acts k l h (sym at) in
    let shown : on ≡ offers_bit bound.estop.bit (next_offered (of_end side.Slave (pair f.link k v.journal))) =
    s.shows f.link.slave (deeds side.Slave (pair f.link k v.journal)) f.kept.stands.slave ∙ sym (offers_is (OfSlave f.link.slave) side.Slave bound.estop.bit (pair f.link k v.journal)) in
    let meant : offers_bit bound.estop.bit (slave_offers b k acts) ≡ offers_bit bound.estop.bit (next_offered (of_end side.Slave (pair f.link k v.journal))) = search (rules, pair) in
    ap not (shown ∙ sym meant)

-- so it is told whether a bound is still
pub still_told : (v : PlantView) (bound : BoundSpec) (l : LinkView) (on guarded told : Bool) → Some l ≡ kept_at v.links bound.estop.link → slave_core.Shows l.slave on (λ s e. not (held e) && bit_of (offer s e) bound.estop.bit)
    → ShowsApp v.master guarded (λ app. app.guards bound.drive bound.estop) → told ≡ (not on && guarded) → TellsStill v bound told
still_told v bound l on guarded told at s g t = record {
  tells = λ b acts h.
      t ∙ ap₂ (λ (x y : Bool). x && y) (offer_told v bound l on at s b acts h) (g.shows (settings b) b.app (calls b acts) h.has_done.master);
}

-- so it is where the slave offers the bit as 1, whatever the application guards
pub moving_told : (v : PlantView) (bound : BoundSpec) (l : LinkView) (on told : Bool) → Some l ≡ kept_at v.links bound.estop.link → slave_core.Shows l.slave on (λ s e. not (held e) && bit_of (offer s e) bound.estop.bit)
    → not on ≡ false → told ≡ false → TellsStill v bound told
moving_told v bound l on told at s moving t = record {
  tells = λ b acts h. t ∙ ap (λ (x : Bool). x && is_drive_guarded b bound acts) (sym moving ∙ offer_told v bound l on at s b acts h);
}
