-- What holds of a master, and what holds of a slave, holds of an end.
use Rattle.std.proofs.Common.{◌≡◌, ℕ, List, [], false, sym, ap, subst, arith}
use Rattle.fsoe_base.specs.Did.{nothing}
use Rattle.fsoe_base.specs.declared.did.Did.{Did}
use Rattle.param_load.specs.declared.entry.Move.{Move}
use Rattle.param_load.specs.declared.master_settings.MasterSettings.{MasterSettings}
use Rattle.param_load.specs.declared.slave_settings.SlaveSettings.{SlaveSettings}
use Rattle.end_model.specs.Setup.{Setup, OfMaster, OfSlave}
use Rattle.end_model.specs.Deed.{Deed}
use Rattle.end_model.specs.Runs.{IsSetting}
use Rattle.master_core.specs.MasterView.{MasterView}
use Rattle.master_core.specs.Now.{is_due}
use Rattle.master_core.specs.Standing as master_core
use Rattle.slave_core.specs.SlaveView.{SlaveView}
use Rattle.slave_core.specs.Standing as slave_core
use Rattle.end_core.specs.Core.{setup_of}
use Rattle.end_core.specs.Standing.{IsAfter, IsNew, Follows, Answers, Shows}
use Rattle.end_core.specs.declared.one_end.Core.{Core}
use Rattle.end_core.specs.declared.one_end.Core.TheVariants as core

-- an end that is after some deeds is set as they say
pub setup_is : (s : Setup) (end : Core) (e : List Deed) → IsAfter s end e → setup_of end ≡ s
setup_is s end e h = grind arith

-- a put, a hold and a nonce do nothing else and send nothing
pub set_answers : (old : Core) (what : Move) → IsSetting what → Answers old what nothing []
set_answers old what h = grind arith

-- a new end, and what it is set to
pub master_set : (settings : MasterSettings) (m : MasterView) → master_core.MasterIsAfter settings m [] → setup_of (core.Master m) ≡ OfMaster settings
master_set settings m h = ap (λ (v : MasterView). OfMaster v.kit.settings) h.is

pub slave_set : (settings : SlaveSettings) (v : SlaveView) → slave_core.SlaveIsAfter settings v [] → setup_of (core.Slave v) ≡ OfSlave settings
slave_set settings v h = ap (λ (v : SlaveView). OfSlave v.kit.settings) h.is

pub new_master : (settings : MasterSettings) (m : MasterView) → master_core.MasterIsAfter settings m [] → is_due m.state ≡ false → IsNew (core.Master m)
new_master settings m h rest = record {
  is_after = subst (λ (s : Setup). IsAfter s (core.Master m) []) (sym (master_set settings m h)) h;
  rest = rest;
}

pub new_slave : (settings : SlaveSettings) (v : SlaveView) → slave_core.SlaveIsAfter settings v [] → IsNew (core.Slave v)
new_slave settings v h = record { is_after = subst (λ (s : Setup). IsAfter s (core.Slave v) []) (sym (slave_set settings v h)) h; rest = tt }

pub master_follows : (old new : MasterView) (what : Move) → master_core.Follows old what new → Follows (core.Master old) what (core.Master new)
master_follows old new what h = grind arith

pub slave_follows : (old new : SlaveView) (what : Move) → slave_core.Follows old what new → Follows (core.Slave old) what (core.Slave new)
slave_follows old new what h = grind arith

pub master_answers : (old : MasterView) (what : Move) (done : Did) (frame : List ℕ) → master_core.Answers old what done frame → Answers (core.Master old) what done frame
master_answers old what done frame h = grind arith

pub slave_answers : (old : SlaveView) (what : Move) (done : Did) (frame : List ℕ) → slave_core.Answers old what done frame → Answers (core.Slave old) what done frame
slave_answers old what done frame h = grind arith

pub master_shows : {X : Type 0} (m : MasterView) (shown : X) (word : Setup → List Deed → X) → master_core.Shows m shown word → Shows (core.Master m) shown word
master_shows m shown word h = grind arith

pub slave_shows : {X : Type 0} (v : SlaveView) (shown : X) (word : Setup → List Deed → X) → slave_core.Shows v shown word → Shows (core.Slave v) shown word
slave_shows v shown word h = grind arith
