use Rattle.file_run.proofs.Common.{Err, Ok}
use Rattle.std.proofs.Common.{ℕ, length, ap, ◌∙◌, arith}
use Rattle.file_run.proofs.Leaving.{halted, unsent}
use Rattle.file_run.proofs.Running.{finds_as, running_sent}
use Rattle.file_run.proofs.run.read_line.Goals as goal

pub returns-in-Err : goal.returns-in-Err
returns-in-Err g c =
    λ first k s same runs.
    let puts = c.in-Err.ensures.puts in
    unsent (g.M.Machine.reporting first) (g.M.Machine.stands first c.args.run.now.machine c.args.handed.now) (λ h log text. (v : g.row.M.Denot) × g.M.Machine.stands first v c.args.handed.now h log text) (g.M.Machine.closes first c.args.handed.now) _ _ _ _ _ _ _ _ _ puts.0 c.write_failed.result runs
    (c.laws.ensures.so_far first c.args.run.now.machine c.args.handed.now) (c.args.run.now.machine, runs.running.stood) puts.1 c.write_failed.ensures.status c.write_failed.ensures.place c.in-Err.ensures.cause.failed c.in-Err.ensures.cause.later

pub returns-in-Err-next_event : goal.returns-in-Err-next_event
returns-in-Err-next_event g c =
    λ first k s same runs.
    let sent = running_sent _ _ _ _ _ _ _ _ _ _ _ _ runs.running c.in_default.ensures.puts c.in_default.ensures.count in
    let next = c.in-Err-next_event.ensures in
    halted (g.M.Machine.reporting first) (g.M.Machine.stands first c.args.run.now.machine c.args.handed.now) (λ h log text. (v : g.row.M.Denot) × g.M.Machine.stands first v c.args.handed.now h log text) (g.M.Machine.closes first c.args.handed.now) _ c.is_full-full.result _ _ c.next_event.new.reader.bytes _ _ _ _ _ _ _ c.in-Err-next_event.why c.halt.result sent
    (c.laws.ensures.so_far first c.args.run.now.machine c.args.handed.now) (c.args.run.now.machine, sent.stood) (finds_as (g.M.Format.Format.format k) (g.M.Machine.reporting first).format _ c.is_full-full.result (Err c.in-Err-next_event.why) c.next_event.new.said _ _ same (next.finds k)) (c.is_full-full.ensures.full first)
    next.goes next.stalls next.most next.cause next.later runs.source_stays (λ some. ap g.S.Source.faults (next.unread (λ is. let none = ap (length {A = ℕ}) (c.in_default.ensures.sent is) in absurd (omega (arith, some, none)))))
    (c.in_default.ensures.cause.stayed ∙ runs.sink_stays) c.halt.ensures.writes c.halt.ensures.later

pub returns : goal.returns
returns g c =
    λ first k s same runs.
    let next = c.in_default-next_event.ensures in
    record {
      full = c.is_full-full.result;
      left = _;
      count = _;
      running = running_sent _ _ _ _ _ _ _ _ _ _ _ _ runs.running c.in_default.ensures.puts c.in_default.ensures.count;
      finds = finds_as (g.M.Format.Format.format k) (g.M.Machine.reporting first).format _ c.is_full-full.result (Ok _) c.next_event.new.said _ _ same (next.finds k);
      fullness = c.is_full-full.ensures.full first;
      few = c.is_full-full.ensures.few;
      next = next.goes;
      most = next.most;
      source_stays = next.cause ∙ runs.source_stays;
      sink_stays = c.in_default.ensures.cause.stayed ∙ runs.sink_stays;
    }
