use Rattle.seq_chain.proofs.Common.{noted}
use Rattle.seq_chain.proofs.Steps.{after_link, number_within}
use Rattle.seq_chain.proofs.laws.consecutive.Goals as goal

pub returns-clause-after_frame : goal.returns-clause-after_frame
returns-clause-after_frame c last last' conn cmd before frame load h some =
    after_link last' conn cmd (noted last before frame) load (number_within last frame.conn frame.cmd before frame.load h).1 some
