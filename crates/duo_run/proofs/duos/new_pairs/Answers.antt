use Rattle.duo_run.proofs.Common.{AllZip, DuoStands, DuoView, MasterSettings, SlaveSettings, all_zipped_more, common_steps}
use Rattle.std.proofs.Common.{◌≡◌, List, [], ◌∷◌, ◌++◌, sym, subst, arith}
use Rattle.duo_run.proofs.duos.new_pairs.Goals as goal

pub loop-master-preserved : goal.loop-master-preserved
loop-master-preserved c =
    let New : MasterSettings × SlaveSettings → DuoView → Type 0 = λ pair v. DuoStands pair.0 pair.1 v [] in
    let pushed : c.push.new.self.items ≡ c.loop-master.duos.items ++ c.new.result ∷ [] = grind (arith, common_steps) in
    subst (λ (duos : List DuoView). AllZip New (c.loop-master.yielded ++ (c.in-Some.master, c.in-Some.slave) ∷ []) duos) (sym pushed)
    (all_zipped_more New c.loop-master.yielded c.loop-master.duos.items (c.in-Some.master, c.in-Some.slave) c.new.result c.loop-master.invariant c.new.ensures.stands)
