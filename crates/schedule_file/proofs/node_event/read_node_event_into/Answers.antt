use Rattle.schedule_file.proofs.Common.{FitsEnd, OnStep, length_of}
use Rattle.schedule_file.proofs.Fitting.{node_line_fits}
use Rattle.schedule_file.proofs.Sound.{so_is}
use Rattle.schedule_file.specs.NodeEvent.{node_line}
use Rattle.std.proofs.Common.{rules}
use Rattle.schedule_file.proofs.node_event.read_node_event_into.Goals as goal

pub returns-clause-fits : goal.returns-clause-fits
returns-clause-fits c =
    let end = c.args.end in
    let sends = length_of c.args.lengths.now in
    let profile = c.args.profile in
    so_is c.read_said.result c.read_said.new.says (node_line end sends profile c.args.line.now) (OnStep (FitsEnd end (sends end) profile)) (node_line_fits end sends profile c.args.line.now) (search rules)
