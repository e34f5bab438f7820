use Rattle.file_run.proofs.Common.{length-take-le, take-append-drop}
use Rattle.std.proofs.Common.{◌≤◌, length, take, drop, refl, sym, inr, arith}
use Rattle.file_run.proofs.stop.write_report.Goals as goal

pub returns-in-Err-clause-writes : goal.returns-in-Err-clause-writes
returns-in-Err-clause-writes g c =
    let text = c.args.report.now in
    let done = c.in-Err.partial.done in
    let fits : done ≤ length text = omega (arith, c.in-Err.ensures.partial) in
    inr (record {
      part = take done text;
      grew = c.in-Err.ensures.bytes;
      begins = (drop done text, sym (take-append-drop done text));
      less = omega (arith, c.in-Err.ensures.partial, length-take-le done text fits);
      status_is = refl;
      place_is = omega (arith, length-take-le done text fits);
      cause = c.in-Err.ensures.cause.failed;
    })
