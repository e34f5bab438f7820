use Rattle.plant_core.proofs.Common.{IsReady, Pulls, sees}
use Rattle.std.proofs.Common.{◌≡◌, ◌≤◌, ◌+◌, ◌-◌, ◌*◌, vec_len, vec_capacity}
use Rattle.plant_core.proofs.ends.Ends.pull_all.Given as goal

abbrev pub invariant-loop : goal.invariant-loop
invariant-loop g l =
    let seen = sees g.A.Application.rule g.A.Application.holds g.A.Application.guards in
    record {
      ready : IsReady l.self l.steps;
      room : vec_len l.steps + (64 - l.counter) * (vec_len l.self.links + 1) ≤ vec_capacity l.steps;
      gone : Pulls (64 - l.counter) (seen l.initial.self l.initial.steps) (seen l.self l.steps) (g.C.Channel.told l.initial.channel) (g.C.Channel.told l.channel);
      named : g.C.Channel.name l.channel ≡ g.C.Channel.name l.initial.channel;
    }
