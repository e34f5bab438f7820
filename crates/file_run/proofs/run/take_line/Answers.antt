use Rattle.file_run.proofs.Common.{None, Some}
use Rattle.std.proofs.Common.{◌++◌, arith, ◌∙◌}
use Rattle.file_run.proofs.Leaving.{at_end, lost, not_done}
use Rattle.file_run.proofs.Running.{read_as, running_event}
use Rattle.file_run.proofs.run.take_line.Goals as goal

pub returns-in_default : goal.returns-in_default
returns-in_default g c =
    λ first k s left faults same was.
    let read = read_as (g.M.Format.Format.format k) _ None was same (c.in_default.ensures k) in
    let run = read.running in
    let closed = c.close-ended.ensures.closes first run.heading run.log run.text run.count run.stood in
    at_end (g.M.Machine.reporting first) (g.M.Machine.stands first c.args.run.now.machine c.args.handed.now) (λ h log text. (v : g.row.M.Denot) × g.M.Machine.stands first v c.args.handed.now h log text) (g.M.Machine.closes first c.args.handed.now) _ _ c.args.reader.now.bytes _ _ _ _ _
    (c.close-ended.new.text ++ g.M.Machine.waits c.close-ended.new.self c.args.handed.now) c.close-ended.result c.close_run.result read (c.laws.ensures.so_far first c.args.run.now.machine c.args.handed.now) (c.args.run.now.machine, run.stood) closed
    (c.laws.ensures.whole first c.args.handed.now run.heading run.log _ c.close-ended.result closed) (c.close-ended.ensures.ends first run.heading run.log run.text run.stood) c.close_run.ensures.writes c.close_run.ensures.later

pub returns-in-Err : goal.returns-in-Err
returns-in-Err g c =
    λ first k s left faults same was.
    let read = read_as (g.M.Format.Format.format k) _ (Some c.in-Some.event.now) was same (c.in-Some.ensures k) in
    let run = read.running in
    not_done (g.M.Machine.reporting first) (g.M.Machine.stands first c.args.run.now.machine c.args.handed.now) (λ h log text. (v : g.row.M.Denot) × g.M.Machine.stands first v c.report.new.handed h log text) (g.M.Machine.closes first c.report.new.handed) _ _ c.args.reader.now.bytes _ _ _ _ _ c.in-Some.event.now c.in-Err.why
    c.halt.result read (c.laws.ensures.so_far first c.args.run.now.machine c.args.handed.now) (c.report.new.self, c.in-Err.ensures.kept first run.heading run.log run.text run.stood)
    (c.in-Err.ensures.stopped first run.heading run.log run.text run.stood) (rw (c.halt_stopped.ensures, c.lines.ensures) at c.halt.ensures.writes) c.halt.ensures.later

pub returns-in-Err-put_text : goal.returns-in-Err-put_text
returns-in-Err-put_text g c =
    λ first k s left faults same was.
    let read = read_as (g.M.Format.Format.format k) _ (Some c.in-Some.event.now) was same (c.in-Some.ensures k) in
    let run = read.running in
    let puts = c.in-Err-put_text.ensures.puts in
    let did = (c.in_default-report.ensures.takes_event first).takes run.heading run.log run.text (omega (arith, run.count)) run.stood in
    lost (g.M.Machine.reporting first) (g.M.Machine.stands first c.args.run.now.machine c.args.handed.now) (g.M.Machine.stands first c.report.new.self c.report.new.handed) (λ h log text. (v : g.row.M.Denot) × g.M.Machine.stands first v c.report.new.handed h log text) (g.M.Machine.closes first c.report.new.handed)
    _ _ c.args.reader.now.bytes _ _ _ _ _ _ c.in-Some.event.now (c.report.new.text ++ g.M.Machine.waits c.report.new.self c.report.new.handed) puts.0 c.write_failed.result read (c.laws.ensures.so_far first c.args.run.now.machine c.args.handed.now)
    (c.laws.ensures.so_far first c.report.new.self c.report.new.handed) did (c.report.new.self, did) puts.1 c.write_failed.ensures.status c.write_failed.ensures.place c.in-Err-put_text.ensures.cause.failed c.in-Err-put_text.ensures.cause.later

pub returns : goal.returns
returns g c =
    λ first k s left faults same was.
    let read = read_as (g.M.Format.Format.format k) _ (Some c.in-Some.event.now) was same (c.in-Some.ensures k) in
    record {
      source_stays = read.source_stays;
      sink_stays = c.in_default-put_text.ensures.cause.stayed ∙ read.sink_stays;
      running = running_event (g.M.Machine.reporting first) (g.M.Machine.stands first c.args.run.now.machine c.args.handed.now) (g.M.Machine.stands first c.report.new.self c.report.new.handed) (g.M.Machine.stands first c.put_text.new.machine c.report.new.handed) _ _ c.args.reader.now.bytes _ _ _ _ _ c.in-Some.event.now _ _
          read (c.in_default-report.ensures.takes_event first) (c.in_default-put_text.ensures.kept first) c.in_default-put_text.ensures.puts c.in_default-put_text.ensures.count c.in_default-put_text.ensures.most c.in_default-report.ensures.most;
    }
