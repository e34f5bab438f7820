-- A new pair stands for no entry.
use Rattle.duo_run.proofs.Common.{DuoStands, DuoView, IsDuo, MasterIsAfter, MasterSettings, SameLengths, SlaveIsAfter, SlaveSettings, window_of}
use Rattle.std.proofs.Common.{◌≡◌, false, [], arith}
use Rattle.exchange_model.specs.Monitor as monitor
use Rattle.master_core.specs.Now.{is_due}

pub stands_new : (ms : MasterSettings) (ss : SlaveSettings) (v : DuoView) → MasterIsAfter ms v.master [] → SlaveIsAfter ss v.slave []
    → v.master_sent ≡ window_of [] → v.slave_sent ≡ window_of [] → v.monitor ≡ monitor.view_of [] → DuoStands ms ss v []
stands_new ms ss v m s a b n = record { master = m; slave = s; master_sent = a; slave_sent = b; monitor = n; world = tt }

pub is_duo : (ms : MasterSettings) (ss : SlaveSettings) (v : DuoView) → SameLengths ms ss → is_due v.master.state ≡ false → v.master.kit.settings ≡ ms → SlaveIsAfter ss v.slave [] → IsDuo v
is_duo ms ss v h k l m = grind arith
