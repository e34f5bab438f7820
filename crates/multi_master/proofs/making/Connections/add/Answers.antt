use Rattle.multi_master.proofs.Common.{MasterView, common_steps, own_len}
use Rattle.std.proofs.Common.{◌≡◌, length, arith}
use Rattle.multi_master.proofs.making.Connections.add.Goals as goal

pub returns-clause-added : goal.returns-clause-added
returns-clause-added _ c =
    let m : MasterView = c.new.result in
    let long : length c.zeros-2.result ≡ own_len m = grind (arith, common_steps) in
    record {
      last = m;
      answer = c.zeros-2.result;
      stands = c.new.ensures.stands;
      settings_are = c.new.ensures.settings;
      rests = c.new.ensures.rest;
      answer_fits = long;
      masters_are = cc;
      inputs_are = cc;
      answers_are = cc;
    }
