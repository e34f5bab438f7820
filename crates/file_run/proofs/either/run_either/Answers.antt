use Rattle.std.proofs.Common.{inl, refl, sym, ◌∙◌}
use Rattle.std.specs.Cmp.Lexicographic.{other_text, same_text}
use Rattle.file_run.proofs.Titled.{is_both, is_plain, is_titled}
use Rattle.file_run.proofs.Unread.{nothing_held, unread}
use Rattle.file_run.proofs.either.run_either.Goals as goal

pub returns-then-eq : goal.returns-then-eq
returns-then-eq g c =
    let line = rw (nothing_held _ (g.S.Source.left c.args.source.now) c.new-reader.ensures.bytes) at c.in-Ok.ensures.finds in
    let ran = rw c.in-Ok.ensures.cause at (c.run_on.ensures (g.S.Source.left c.args.source.now) line.1) in
    let same = sym c.line.ensures ∙ same_text c.line.result.now c.args.title.now c.if-eq.ensures in
    record { ran = is_titled _ _ _ _ _ _ line.0 line.1 same ran.0; leaves = is_titled _ _ _ _ _ _ line.0 line.1 same (refl, ran.1) }

pub returns-else-eq : goal.returns-else-eq
returns-else-eq g c =
    let line = rw (nothing_held _ (g.S.Source.left c.args.source.now) c.new-reader.ensures.bytes) at c.in-Ok.ensures.finds in
    let ran = rw c.in-Ok.ensures.cause at (c.run_on-else-eq.ensures (g.S.Source.left c.args.source.now) line.1) in
    record {
      ran = is_plain _ _ _ _ _ _ line.0 line.1 (λ same. other_text c.line.result.now c.args.title.now c.if-eq.ensures (c.line.ensures ∙ same)) ran.0;
      leaves = is_plain _ _ _ _ _ _ line.0 line.1 (λ same. other_text c.line.result.now c.args.title.now c.if-eq.ensures (c.line.ensures ∙ same)) (refl, ran.1);
    }

pub returns-in-Err : goal.returns-in-Err
returns-in-Err g c =
    let titled = unread (g.T.Machine.reporting c.args.titled.now) _ _ _ _ _ _ c.in-Err.why c.end_unread.result (record { some = c.laws.ensures.some c.args.titled.now; headless = c.laws.ensures.headless c.args.titled.now })
    c.new-reader.ensures.bytes c.new-reader.ensures.lines c.in-Err.ensures.finds c.in-Err.ensures.goes c.in-Err.ensures.stalls c.in-Err.ensures.most c.in-Err.ensures.cause c.in-Err.ensures.later c.end_unread.ensures.writes c.end_unread.ensures.later in
    let plain = unread (g.M.Machine.reporting c.args.plain.now) _ _ _ _ _ _ c.in-Err.why c.end_unread.result (record { some = c.laws-2.ensures.some c.args.plain.now; headless = c.laws-2.ensures.headless c.args.plain.now })
    c.new-reader.ensures.bytes c.new-reader.ensures.lines c.in-Err.ensures.finds c.in-Err.ensures.goes c.in-Err.ensures.stalls c.in-Err.ensures.most c.in-Err.ensures.cause c.in-Err.ensures.later c.end_unread.ensures.writes c.end_unread.ensures.later in
    record { ran = is_both _ _ _ _ titled.0 plain.0; leaves = is_both _ _ _ _ (refl, inl (refl, titled.1)) (refl, inl (refl, plain.1)) }
