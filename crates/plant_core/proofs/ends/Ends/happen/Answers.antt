use Rattle.plant_core.proofs.Common.{LinkView}
use Rattle.std.proofs.Common.{◌≡◌, vec_len, refl, sym, ap, ◌∙◌, rules, arith}
use Rattle.plant_model.specs.declared.event.PlantEvent.TheVariants as event
use Rattle.fsoe_base.specs.declared.command.End.TheVariants as side
use Rattle.param_load.specs.MoveRef.{owned_move}
use Rattle.plant_core.proofs.Acting.{few_at, kept_number, kept_placed, one_noted}
use Rattle.plant_core.proofs.OneDeed.{cut_event, master_nonce, slave_at, slave_goes}
use Rattle.plant_core.proofs.Pulling.{event_line}
use Rattle.plant_core.proofs.ends.Ends.happen.Goals as goal

pub act-requires : goal.act-requires
act-requires g c =
    let links = c.args.self.now.links in
    let at = slave_at links.items _ _ _ _ c.args.event.now (owned_move c.in-Some.what) c.in-Some.ensures c.requires.fits links.ok.0 c.from.ensures c.index_mut.ensures.value in
    let small = c.note_event.new.steps.small in
    let roomy = c.note_event.new.steps.ok.1 in
    record { few = few_at links.items (vec_len c.args.steps.now) _ _ c.requires.ready.noted (omega arith) at.0.at; proper = at.1.proper _ _ at.0 }

pub returns-in-Some : goal.returns-in-Some
returns-in-Some g c =
    let links = c.args.self.now.links in
    let at = slave_at links.items _ _ _ _ c.args.event.now (owned_move c.in-Some.what) c.in-Some.ensures c.requires.fits links.ok.0 c.from.ensures c.index_mut.ensures.value in
    record {
      line = event_line _ _ _ _ _ c.requires.fits at.1.other
          (slave_goes _ _ _ _ c.in-Some.link (owned_move c.in-Some.what) _ _ _ at.1.act (record { place = _; was = _; is = _; placed = at.0; acts = c.act.ensures.acts; master = refl; links = refl; journal = c.note_event.ensures.noted }) (λ b us t. t));
      name_stays = c.act.ensures.name_stays;
      ready = one_noted _ _ links.items _ _ _ _ _ _ _ c.requires.ready refl at.0.at (omega (arith, c.act.ensures.acts.notes.noted)) c.note_event.ensures.count;
    }

pub nonce-requires : goal.nonce-requires
nonce-requires g c =
    let at = c.in-Nonce-default-Master-default in
    kept_number c.args.self.now.links.items at.link _ (rw at.is at c.requires.fits).0 (sym c.requires.ready.count)

pub index_mut-requires-in-Nonce-default-Master-default : goal.index_mut-requires-in-Nonce-default-Master-default
index_mut-requires-in-Nonce-default-Master-default g c =
    let at = c.in-Nonce-default-Master-default in
    let links = c.args.self.now.links in
    let number = kept_number links.items at.link links.len (rw at.is at c.requires.fits).0 links.ok.0 in
    omega (arith, c.from-in-Nonce-default-Master-default.ensures)

pub note_setting-requires : goal.note_setting-requires
note_setting-requires g c =
    let at = c.in-Nonce-default-Master-default in
    let links = c.args.self.now.links in
    let p = kept_placed links.items _ at.link _ _ (rw at.is at c.requires.fits).0 links.ok.0 c.from-in-Nonce-default-Master-default.ensures c.index_mut-in-Nonce-default-Master-default.ensures.value in
    let small = c.note_event.new.steps.small in
    let roomy = c.note_event.new.steps.ok.1 in
    record { few = few_at links.items (vec_len c.args.steps.now) _ _ c.requires.ready.noted (omega arith) p.at }

pub returns-in-Nonce-default-Master-default : goal.returns-in-Nonce-default-Master-default
returns-in-Nonce-default-Master-default g c =
    let at = c.in-Nonce-default-Master-default in
    let links = c.args.self.now.links in
    let is : c.args.event.now ≡ event.Nonce at.link side.Master at.id = search rules in
    let p = kept_placed links.items _ at.link _ _ (rw is at c.requires.fits).0 links.ok.0 c.from-in-Nonce-default-Master-default.ensures c.index_mut-in-Nonce-default-Master-default.ensures.value in
    let journal = rw is at c.note_event.ensures.noted in
    record {
      line = rw is (event_line _ _ _ _ _ (rw is at c.requires.fits) refl (master_nonce _ _ at.link at.id _ _ _ _ p c.note_setting.ensures c.nonce.ensures.follows refl journal));
      name_stays = refl;
      ready = one_noted _ _ links.items _ _ _ _ _ _ _ c.requires.ready c.nonce.ensures.settings p.at (omega (arith, c.note_setting.ensures.notes.noted)) c.note_event.ensures.count;
    }

pub index_mut-requires-in-Cut : goal.index_mut-requires-in-Cut
index_mut-requires-in-Cut g c =
    let links = c.args.self.now.links in
    let number = kept_number links.items c.in-Cut.link links.len (rw c.in-Cut.is at c.requires.fits) links.ok.0 in
    omega (arith, c.from-in-Cut.ensures)

pub returns-in-Cut : goal.returns-in-Cut
returns-in-Cut g c =
    let links = c.args.self.now.links in
    let p = kept_placed links.items _ c.in-Cut.link _ _ (rw c.in-Cut.is at c.requires.fits) links.ok.0 c.from-in-Cut.ensures c.index_mut-in-Cut.ensures.value in
    let journal = rw c.in-Cut.is at c.note_event.ensures.noted in
    record {
      line = rw c.in-Cut.is (event_line _ _ _ _ _ (rw c.in-Cut.is at c.requires.fits) refl (cut_event _ _ c.in-Cut.link _ c.in-Cut.cut _ _ _ p c.set_cut.ensures refl refl journal));
      name_stays = refl;
      ready = one_noted _ _ links.items _ _ _ _ _ _ _ c.requires.ready refl p.at (omega (arith, ap (λ (l : LinkView). l.monitor.noted) c.set_cut.ensures)) c.note_event.ensures.count;
    }
