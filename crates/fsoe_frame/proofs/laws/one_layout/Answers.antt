use Rattle.fsoe_frame.proofs.Places.{frame_layout, whole}
use Rattle.fsoe_frame.proofs.laws.one_layout.Goals as goal

pub returns-clause-read_back : goal.returns-clause-read_back
returns-clause-read_back c = frame_layout

pub returns-clause-written_back : goal.returns-clause-written_back
returns-clause-written_back c l bytes valid right = (whole l bytes valid right).back

pub returns-clause-counts : goal.returns-clause-counts
returns-clause-counts c l bytes valid right =
    let parts = whole l bytes valid right in
    (parts.load, parts.crcs)
