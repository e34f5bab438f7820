use Rattle.std.proofs.Common.{refl, rules}
use Rattle.multi_master.proofs.Keeping.{multi_set}
use Rattle.multi_master.proofs.Places.{all_at, map_set, master_placed}
use Rattle.multi_master.proofs.Reading.{nonce_quiet, quiet_follows}
use Rattle.multi_master.proofs.multi_master.MultiMaster.session_id.Goals as goal

pub returns-clause-follows : goal.returns-clause-follows
returns-clause-follows g c =
    let has = rw (← c.self.view_is) at c.requires.number in
    let p = master_placed _ _ _ _ has c.from.ensures c.index_mut.ensures.value in
    rw (← c.self.view_is) (quiet_follows _ _ _ c.args.link _ _ _ c.nonce.new.self (nonce_quiet c.args.link c.args.id) p c.nonce.ensures.follows refl refl refl c.clear.ensures)

pub invariant_of-self : goal.invariant_of-self
invariant_of-self c = search (rules, all_at, master_placed, multi_set)

pub returns-clause-settings : goal.returns-clause-settings
returns-clause-settings c = search (rules, master_placed, map_set)
