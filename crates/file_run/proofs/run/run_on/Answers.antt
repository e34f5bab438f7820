use Rattle.file_run.proofs.Common.{IsLent, Option}
use Rattle.std.proofs.Common.{ℕ, List, arith, inl, inr, refl}
use Rattle.file_run.proofs.Running.{running_start, unbegun}
use Rattle.file_run.proofs.Taken.{is_lent}
use Rattle.file_run.proofs.run.run_on.Goals as goal

pub returns-in-Err : goal.returns-in-Err
returns-in-Err g c =
    λ input lent.
    let ended = unbegun (g.M.Machine.reporting c.args.handed.now) _ c.begin_over.new.reader.bytes c.in-Err.why c.end_unread.result (record { some = c.laws.ensures.some c.args.handed.now; headless = c.laws.ensures.headless c.args.handed.now })
    (c.in-Err.ensures.headless input lent) (c.in-Err.ensures.halts input lent) c.in-Err.ensures.stalls c.in-Err.ensures.cause c.in-Err.ensures.later c.end_unread.ensures.writes c.end_unread.ensures.later in
    (ended.0, inl (c.in-Err.ensures.kept, ended.1))

pub loop-ended-init : goal.loop-ended-init
loop-ended-init g c = record {
  few = omega arith;
  runs = λ input lent. record {
    running = running_start (g.M.Machine.reporting c.args.handed.now) (g.M.Machine.stands c.args.handed.now c.in-Ok.begun.0 c.begin_over.new.handed) (g.M.Format.Format.says c.in-Ok.begun.1) _ _ _ c.new.result _ (c.in-Ok.ensures.begins input lent)
        c.new.ensures.bytes c.new.ensures.sent;
    source_stays = c.in-Ok.ensures.cause;
    sink_stays = refl;
  };
}

pub read_line-requires : goal.read_line-requires
read_line-requires g c =
    let k = c.in-Ok.ensures.kind in
    (c.args.handed.now, k.0, _, k.1, c.loop-ended.invariant.runs _ (is_lent c.args.reader.now (g.S.Source.left c.args.source.now)))

pub returns-in-Some : goal.returns-in-Some
returns-in-Some g c =
    λ input lent.
    let k = c.in-Ok.ensures.kind in
    let ends = c.in-Some.ensures c.args.handed.now k.0 _ k.1 (c.loop-ended.invariant.runs input lent) in
    (ends.0, inr ends.1)

pub take_line-requires : goal.take_line-requires
take_line-requires g c =
    let k = c.in-Ok.ensures.kind in
    (c.args.handed.now, k.0, _, _, _, k.1, c.in_default.ensures c.args.handed.now k.0 _ k.1 (c.loop-ended.invariant.runs _ (is_lent c.args.reader.now (g.S.Source.left c.args.source.now))))

pub returns-in-Some-take_line : goal.returns-in-Some-take_line
returns-in-Some-take_line g c =
    λ input lent.
    let k = c.in-Ok.ensures.kind in
    let ends = c.in-Some-take_line.ensures c.args.handed.now k.0 _ _ _ k.1 (c.in_default.ensures c.args.handed.now k.0 _ k.1 (c.loop-ended.invariant.runs input lent)) in
    (ends.0, inr ends.1)

pub loop-ended-preserved : goal.loop-ended-preserved
loop-ended-preserved g c =
    let k = c.in-Ok.ensures.kind in
    let runs = λ (input : Option (List ℕ)) (lent : IsLent input c.args.reader.now (g.S.Source.left c.args.source.now)).
    c.in_default-take_line.ensures c.args.handed.now k.0 _ _ _ k.1 (c.in_default.ensures c.args.handed.now k.0 _ k.1 (c.loop-ended.invariant.runs input lent)) in
    let now = runs _ (is_lent c.args.reader.now (g.S.Source.left c.args.source.now)) in
    record { few = now.running.few; runs = runs }
