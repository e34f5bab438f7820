use Rattle.duo_run.proofs.Common.{AreSetTo, MasterSettings, SlaveSettings, Some, common_steps, numbered, pairs_of}
use Rattle.std.proofs.Common.{◌≡◌, ◌<◌, ◌+◌, [], ◌∷◌, ◌++◌, length, refl, arith, rules}
use Rattle.duo_run.proofs.Pairs.At.{named}
use Rattle.duo_run.proofs.Pairs.Begun.{settings_more}
use Rattle.duo_run.proofs.pairs_run.settings_of.Goals as goal
use Rattle.duo_run.proofs.Pairs.Ticking.{found_at}

pub loop-before-preserved : goal.loop-before-preserved
loop-before-preserved c =
    let hs = pairs_of c.args.header.now in
    let below : c.loop-before.before < length hs = omega (arith, c.count-count.ensures.value) in
    let found = found_at hs c.loop-before.before below in
    let at : numbered (c.loop-before.before + 1) hs ≡ Some found.0 = named _ c.loop-before.before hs found.0 refl found.1 in
    let own : MasterSettings × SlaveSettings = (c.master.result, c.slave.result) in
    let set : AreSetTo found.0 own.0 own.1 = (rw at at c.master.ensures, rw at at c.slave.ensures) in
    let pushed : c.push.new.self.items ≡ c.loop-before.settings.items ++ own ∷ [] = grind (arith, common_steps) in
    record {
      set = rw pushed (settings_more hs c.loop-before.settings.items c.loop-before.before found.0 own found.1 c.loop-before.invariant.set set);
      many = search rules;
    }
