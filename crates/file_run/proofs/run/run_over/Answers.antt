use Rattle.std.proofs.Common.{inl, refl}
use Rattle.file_run.proofs.Unread.{nothing_held, unread}
use Rattle.file_run.proofs.run.run_over.Goals as goal

pub returns-in-Ok : goal.returns-in-Ok
returns-in-Ok g c =
    let line = rw (nothing_held _ (g.S.Source.left c.args.source.now) c.new-reader.ensures.bytes) at c.in-Ok.ensures.finds in
    let ran = rw c.in-Ok.ensures.cause at (c.run_on.ensures (g.S.Source.left c.args.source.now) line.1) in
    record { ran = ran.0; leaves = ran.1 }

pub returns-in-Err : goal.returns-in-Err
returns-in-Err g c =
    let ended = unread (g.M.Machine.reporting c.args.handed.now) _ _ _ _ _ _ c.in-Err.why c.end_unread.result (record { some = c.laws.ensures.some c.args.handed.now; headless = c.laws.ensures.headless c.args.handed.now })
    c.new-reader.ensures.bytes c.new-reader.ensures.lines c.in-Err.ensures.finds c.in-Err.ensures.goes c.in-Err.ensures.stalls c.in-Err.ensures.most c.in-Err.ensures.cause c.in-Err.ensures.later c.end_unread.ensures.writes c.end_unread.ensures.later in
    record { ran = ended.0; leaves = inl (refl, ended.1) }
