use Rattle.schedule_file.proofs.OneSetting.{one_master, one_slave}
use Rattle.schedule_file.proofs.laws.whole_headers_give_settings.Goals as goal

pub returns-clause-one_master : goal.returns-clause-one_master
returns-clause-one_master c = one_master

pub returns-clause-one_slave : goal.returns-clause-one_slave
returns-clause-one_slave c = one_slave
