use Rattle.std.proofs.Common.{◌≡◌, ◌+◌, ◌-◌, suc, vec_len, vec_capacity, arith, refl, ◌∙◌}
use Rattle.plant_core.proofs.Pulling.{none_gone, one_pulled, one_room, pulled_until, pull_room}
use Rattle.plant_core.proofs.ends.Ends.pull_all.Goals as goal

pub loop-init : goal.loop-init
loop-init g c = record { ready = c.requires.ready; room = c.requires.room; gone = none_gone _ _; named = refl }

pub deliver-requires-clause-room : goal.deliver-requires-clause-room
deliver-requires-clause-room g c = one_room c.loop.counter _ _ _ c.loop-test.true c.loop.invariant.room

pub returns-clause-pulls : goal.returns-clause-pulls
returns-clause-pulls g c =
    let none : 64 - c.loop.counter ≡ 0 = omega (arith, c.loop-test.false) in
    rw none at c.loop.invariant.gone

pub returns-in_default-clause-pulls : goal.returns-in_default-clause-pulls
returns-in_default-clause-pulls g c =
    let pulls = rw c.in_default.is at c.pull.ensures.pulls in
    let one : 64 - c.loop.counter ≡ suc (64 - (c.loop.counter + 1)) = omega (arith, c.loop-test.true) in
    let gone = rw one at c.loop.invariant.gone in
    pulled_until _ _ _ _ _ _ gone pulls

pub loop-preserved : goal.loop-preserved
loop-preserved g c =
    let pulls = rw c.in-Some.is at c.pull.ensures.pulls in
    let one : 64 - c.loop.counter ≡ suc (64 - (c.loop.counter + 1)) = omega (arith, c.loop-test.true) in
    let gone = rw one at c.loop.invariant.gone in
    record {
      ready = c.deliver.ensures.ready;
      room = pull_room c.loop.counter (vec_len c.loop.steps) (vec_len c.deliver.new.steps) (vec_capacity c.loop.steps) (vec_capacity c.deliver.new.steps) (vec_len c.loop.self.links) (vec_len c.deliver.new.self.links) c.loop-test.true c.loop.invariant.room c.deliver.ensures.few c.deliver.ensures.capacity c.deliver.ensures.count;
      gone = one_pulled _ _ _ _ (record { to = c.in-Some.to; frame = c.pull.new.out }) _ _ _ _ gone pulls c.deliver.ensures.delivers;
      named = c.deliver.ensures.name_stays ∙ c.pull.ensures.name_stays ∙ c.loop.invariant.named;
    }
