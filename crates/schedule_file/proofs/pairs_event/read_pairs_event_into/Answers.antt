use Rattle.schedule_file.proofs.Common.{PairsLineFits, fields_after, length_of, profile_of}
use Rattle.std.proofs.Common.{map}
use Rattle.schedule_file.proofs.Pairs.{numbered_fits}
use Rattle.schedule_file.proofs.Sound.{so_is}
use Rattle.schedule_file.proofs.pairs_event.read_pairs_event_into.Goals as goal

pub returns-then-is_digits-clause-fits : goal.returns-then-is_digits-clause-fits
returns-then-is_digits-clause-fits c =
    let sends = map length_of c.args.lengths.now in
    let profiles = map profile_of c.args.profiles.now in
    so_is c.read_numbered.result c.read_numbered.new.said _ (PairsLineFits sends profiles) (numbered_fits sends profiles c.cut.result.0.now (fields_after c.cut.result.1)) c.read_numbered.ensures.value
