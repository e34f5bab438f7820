use Rattle.std.proofs.Common.{◌≡◌, ℕ, ◌-◌, ◌∷◌, ◌++◌, ◌≤◌, List, length, drop, slice_set, arith, ap, ◌∙◌}
use Rattle.std.proofs.lemmas.List.{length-drop, length-set, length-take, length-take-le}
use Rattle.fsoe_base.specs.Bytes.{low_high}
use Rattle.fsoe_frame.specs.Layout.{with_crcs, groups}
use Rattle.fsoe_frame.proofs.Places.{framed, group_bytes, written_last}
use Rattle.fsoe_frame.proofs.writing.write_over.Goals as goal
use borrow.Rule.Slice.PartMut.{same_len_mid}

pub returns : goal.returns
returns c =
    let out : List ℕ = c.args.out.now in
    let count = group_bytes (length c.args.load.now) (length out) (length c.args.crcs.now) c.requires.valid c.requires.room c.requires.one_each in
    let begun : List ℕ = slice_set out 0 c.args.command in
    let same : length begun ≡ length out = length-set out 0 c.args.command in
    let middle : List ℕ = c.write_groups.new.out in
    let part = length-take-le (length out - 2 - 1) (drop 1 begun) (omega (arith, count, same, length-drop 1 begun)) in
    let long = same_len_mid 1 (length out - 2 - 1) begun middle c.write_groups.auto.out in
    let last : List ℕ = c.write_u16.new.buf in
    let two : length last ≤ 2 = omega (arith, count, same, long, c.write_u16.auto.buf, length-take {A = ℕ}) in
    let tail : last ≡ low_high c.args.conn = written_last c.args.conn last _ c.write_u16.ensures c.ranges.conn.fits two in
    framed out middle last c.args.command (length out - 2) _ _ (omega (arith, count)) (omega (arith, count, part, c.write_groups.auto.out)) (omega (arith, count, same, long))
    ∙ ap (λ xs. c.args.command ∷ (xs ++ last)) c.write_groups.ensures
    ∙ ap (λ xs. c.args.command ∷ (with_crcs (groups c.args.load.now) c.args.crcs.now ++ xs)) tail
