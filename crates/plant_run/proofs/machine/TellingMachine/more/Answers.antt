use Rattle.plant_run.proofs.Common.{rest_in}
use Rattle.std.proofs.Common.{◌≡◌, ◌+◌, ℕ, suc, ap, ◌∙◌, arith}
use Rattle.plant_run.proofs.Hearing.{are_aged, watched_at}
use Rattle.plant_run.proofs.Waiting.{bound_part, links_done, part_shown}
use Rattle.plant_run.proofs.machine.TellingMachine.more.Goals as goal

pub write_bound-requires : goal.write_bound-requires
write_bound-requires g c =
    let stands = c.requires.1.3 in
    are_aged c.in-Bounds.place stands.2 (watched_at stands.2 (c.bounds.ensures.value ∙ ap (λ conf. conf.now.bounds) stands.1) (omega arith) c.index-watched.ensures)

pub returns-in-Links-clause-part : goal.returns-in-Links-clause-part
returns-in-Links-clause-part g c =
    let stands = c.requires.1.3 in
    let place : ℕ = c.in-Links.place in
    let number : place + 1 ≡ suc place = omega arith in
    ap (λ r. rest_in r c.args.given.now.conf.now c.args.given.now.plant.now.journal c.args.given.now.watched.now.items) c.in-Links.is
    ∙ part_shown _ _ _ place (place + 1) _ c.write_link.new.text stands.2.stands (ap (λ conf. conf.now.links) stands.1) c.write_link.ensures number

pub returns-else-place-links-clause-some : goal.returns-else-place-links-clause-some
returns-else-place-links-clause-some g c = λ empty.
    let stands = c.requires.1.3 in
    ap (λ r. rest_in r c.args.given.now.conf.now c.args.given.now.plant.now.journal c.args.given.now.watched.now.items) c.in-Links.is
    ∙ links_done stands.2 (ap (λ conf. conf.now.links) stands.1) c.links.ensures.count c.if-place-links.false

pub returns-in-Bounds-clause-part : goal.returns-in-Bounds-clause-part
returns-in-Bounds-clause-part g c =
    let stands = c.requires.1.3 in
    let k = stands.2 in
    let place : ℕ = c.in-Bounds.place in
    let same = c.bounds.ensures.value ∙ ap (λ conf. conf.now.bounds) stands.1 in
    let number : place + 1 ≡ suc place = omega arith in
    ap (λ r. rest_in r c.args.given.now.conf.now c.args.given.now.plant.now.journal c.args.given.now.watched.now.items) c.in-Bounds.is
    ∙ bound_part _ _ _ _ _ _ place (place + 1) _ c.broken-broken.result c.write_bound.new.text k.stands (ap (λ conf. conf.now.links) stands.1) k.watched_are (watched_at k same (omega arith) c.index-watched.ensures)
    c.write_bound.ensures.shown c.broken-broken.ensures number
