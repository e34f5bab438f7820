use Rattle.schedule_file.proofs.Common.{Fits, OnStep, length_of, pair_line, profile_of}
use Rattle.schedule_file.proofs.Fitting.{pair_line_fits}
use Rattle.schedule_file.proofs.Sound.{so_is}
use Rattle.std.proofs.Common.{rules}
use Rattle.schedule_file.proofs.pair_event.read_event_into.Goals as goal

pub returns-clause-fits : goal.returns-clause-fits
returns-clause-fits c =
    let sends = length_of c.args.lengths.now in
    let profiles = profile_of c.args.profiles.now in
    so_is c.read_said.result c.read_said.new.says (pair_line sends profiles c.args.line.now) (OnStep (Fits sends profiles)) (pair_line_fits sends profiles c.args.line.now) (search rules)
