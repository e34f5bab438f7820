use Rattle.std.proofs.Common.{◌∙◌}
use Rattle.duo_run.proofs.Numbers.HonestNumber.{zero_serves}
use Rattle.duo_run.proofs.Numbers.Summed.{bulk_wrote, entries_fair}
use Rattle.duo_run.proofs.Numbers.WholeRuns.{is_whole}
use Rattle.duo_run.proofs.bulk.run_bulk.Goals as goal

pub returns : goal.returns
returns g c =
    let known = c.summarize-other.ensures in
    record {
      wrote = bulk_wrote c.args.number c.args.events _ _ _ _ _ _ known.summary known.other (c.bytes.ensures.value ∙ c.write_summary.ensures) c.ended_with.ensures c.write_report.ensures.writes;
      whole = (is_whole c.args.number c.args.events).each;
      fair = entries_fair c.args.number c.args.events known.is_world;
      serves = zero_serves c.args.number c.args.events;
      later = c.write_report.ensures.later;
    }
