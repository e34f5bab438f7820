use Rattle.plant_core.proofs.Common.{SlaveTicks, written_back}
use Rattle.std.proofs.Common.{◌≡◌, ◌+◌, ◌-◌, ◌*◌, ◌^◌, length, vec_len, sym, ap, ◌∙◌, arith}
use Rattle.plant_core.proofs.Acting.{each_noted}
use Rattle.plant_core.proofs.Cycling.{tick_goes}
use Rattle.plant_core.proofs.Pulling.{tick_line}
use Rattle.plant_core.proofs.ends.Ends.tick.Goals as goal

pub masters_ticked-requires : goal.masters_ticked-requires
masters_ticked-requires g c =
    let self = c.args.self.now in
    let steps = c.note_event.new.steps in
    let small = steps.small in
    let roomy = steps.ok.1 in
    let dids : length c.tick.new.dids ≡ length self.dids.items = cc in
    let outs : length c.tick.new.outs ≡ length self.outs.items = cc in
    let count = sym self.links.ok.0 ∙ sym c.tick_slaves.ensures.count in
    record {
      most = omega (arith, c.requires.ready.most, count);
      few = each_noted SlaveTicks 0 (2 * vec_len c.args.steps.now) (2 ^ 64 - 2) _ _ _ _ (λ n v w t u a. a.notes) c.tick_slaves.ensures.acted (omega arith) c.requires.ready.noted;
      dids = ap length (c.deref.ensures.value ∙ written_back c.tick.new.dids self.dids.items self.dids.len self.dids.ok.0 dids) ∙ dids ∙ c.requires.ready.dids_fit ∙ count;
      outs = ap length (c.deref-2.ensures.value ∙ written_back c.tick.new.outs self.outs.items self.outs.len self.outs.ok.0 outs) ∙ outs ∙ c.requires.ready.outs_fit ∙ count;
    }

pub note_offers-requires : goal.note_offers-requires
note_offers-requires g c =
    let len = vec_len c.args.steps.now in
    let noted = each_noted SlaveTicks 0 (2 * len) (2 * len + 1) _ _ _ _ (λ n v w t u a. a.notes) c.tick_slaves.ensures.acted (omega arith) c.requires.ready.noted in
    record {
      count = omega (arith, c.args.self.now.links.ok.0, c.requires.ready.count, ap length c.tick.ensures.settings);
      room = omega (arith, c.requires.room);
      noted = each_noted _ 0 (2 * len + 1) (2 * vec_len c.note_event.new.steps) _ _ _ _ (λ n v w t u a. a.noted.notes) c.masters_ticked.ensures.acted (omega arith) noted;
    }

pub pull_all-requires-clause-room : goal.pull_all-requires-clause-room
pull_all-requires-clause-room g c = omega (arith, c.requires.room)

pub returns-clause-line : goal.returns-clause-line
returns-clause-line g c =
    let dids = c.args.self.now.dids in
    let outs = c.args.self.now.outs in
    let dids_are : c.deref.result.now ≡ c.tick.new.dids = c.deref.ensures.value ∙ written_back c.tick.new.dids dids.items dids.len dids.ok.0 (cc) in
    let outs_are : c.deref-2.result.now ≡ c.tick.new.outs = c.deref-2.ensures.value ∙ written_back c.tick.new.outs outs.items outs.len outs.ok.0 (cc) in
    let masters = rw (dids_are, outs_are) at c.masters_ticked.ensures.acted in
    let offers = rw c.note_event.ensures.noted at c.note_offers.ensures.offers in
    tick_line _ _ _ _ _ _ (tick_goes _ _ _ _ _ _ _ _ _ c.tick_slaves.ensures.acted c.tick.ensures.follows c.tick.ensures.answers masters offers) c.pull_all.ensures.pulls
