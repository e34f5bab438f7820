use Rattle.plant_core.proofs.Common.{Parcel, placed}
use Rattle.std.proofs.Common.{◌≡◌, ◌<◌, ◌⊎◌, length, refl, sym, ap, ◌∙◌, arith, rules}
use Rattle.plant_core.proofs.Acting.{one_noted, still_plant}
use Rattle.plant_core.proofs.Cycling.{master_delivered}
use Rattle.plant_core.proofs.OneDeed.{slave_delivered}
use Rattle.plant_core.proofs.Pulling.{nowhere_delivered}
use Rattle.plant_core.proofs.ends.Ends.deliver.Goals as goal

pub returns-then-link-eq0-clause-delivers : goal.returns-then-link-eq0-clause-delivers
returns-then-link-eq0-clause-delivers g c =
    let links = c.args.self.now.links in
    let parcel : Parcel = record { to = c.args.to; frame = c.args.frame.now } in
    let far : (c.args.to.link ≡ 0) ⊎ (length links.items < c.args.to.link) = search rules
    in
    nowhere_delivered _ _ parcel _ far refl refl c.note_pulled.ensures.noted

pub note_offers-requires : goal.note_offers-requires
note_offers-requires g c = record {
  count = omega (arith, c.args.self.now.links.ok.0, c.requires.ready.count, ap length c.deliver_into.ensures.settings);
  room = omega arith;
  noted = c.requires.ready.noted;
}

pub returns-in-Master-clause-delivers : goal.returns-in-Master-clause-delivers
returns-in-Master-clause-delivers g c =
    let some = c.note_offers.new.links in
    let p = placed some.items some.len c.args.to.link _ _ (record { first = omega arith; last = omega arith }) some.ok.0 c.from-in-Master.ensures c.index_mut.ensures.value in
    let follows = rw c.bytes.ensures.value at c.deliver_into.ensures.follows in
    let answers = rw c.bytes.ensures.value at c.deliver_into.ensures.answers in
    let noted = rw (c.bytes-in-Master.ensures.value, c.watchdog_in-watchdog.ensures) at c.acted.ensures.noted in
    master_delivered _ _ c.args.to _ c.args.frame.now some.items _ _ _ _ _ _ _ _ c.in-Master.is follows answers c.terms.ensures c.note_offers.ensures.offers p noted c.acted.ensures.pushed refl c.note_pulled-in-Master.ensures.noted

pub returns-in-Master-clause-ready : goal.returns-in-Master-clause-ready
returns-in-Master-clause-ready g c =
    let some = c.note_offers.new.links in
    let p = placed some.items some.len c.args.to.link _ _ (record { first = omega arith; last = omega arith }) some.ok.0 c.from-in-Master.ensures c.index_mut.ensures.value in
    let mid = still_plant _ c.deliver_into.new.self _ some.items _ _ _ _ c.requires.ready c.deliver_into.ensures.settings (sym some.ok.0 ∙ c.note_offers.ensures.count ∙ c.args.self.now.links.ok.0) c.note_offers.ensures.noted in
    one_noted _ _ some.items _ _ _ _ _ _ _ mid refl p.at (omega (arith, c.acted.ensures.noted.notes.noted)) c.note_pulled-in-Master.ensures.count

pub returns-in-Slave-clause-delivers : goal.returns-in-Slave-clause-delivers
returns-in-Slave-clause-delivers g c =
    let links = c.args.self.now.links in
    let p = placed links.items links.len c.args.to.link _ _ (record { first = omega arith; last = omega arith }) links.ok.0 c.from-in-Slave.ensures c.index_mut-in-Slave.ensures.value in
    let acts = rw c.bytes-in-Slave.ensures.value at c.act.ensures.acts in
    slave_delivered _ _ c.args.to c.args.frame.now _ _ c.in-Slave.is (record { place = _; was = _; is = _; placed = p; acts = acts; master = refl; links = refl; journal = c.note_pulled-in-Slave.ensures.noted })

pub returns-in-Slave-clause-ready : goal.returns-in-Slave-clause-ready
returns-in-Slave-clause-ready g c =
    let links = c.args.self.now.links in
    let p = placed links.items links.len c.args.to.link _ _ (record { first = omega arith; last = omega arith }) links.ok.0 c.from-in-Slave.ensures c.index_mut-in-Slave.ensures.value in
    one_noted _ _ links.items _ _ _ _ _ _ _ c.requires.ready refl p.at (omega (arith, c.act.ensures.acts.notes.noted)) c.note_pulled-in-Slave.ensures.count
