use Rattle.std.proofs.Common.{ℕ, ◌+◌, ◌-◌, ◌*◌, ◌++◌, List, arith, take, ap, ◌∙◌, get_or, rules}
use borrow.Rule.Slice.PartMut.{put_mid, same_len_mid}
use Rattle.fsoe_base.specs.Bytes.{low_high}
use Rattle.fsoe_frame.specs.Layout.{with_crcs, groups}
use Rattle.fsoe_frame.proofs.Places.{after_first, number_taken, pair_of_crc, put_taken, writes_pair}
use Rattle.fsoe_frame.proofs.writing.write_groups.Goals as goal

pub returns-then-load-eq1 : goal.returns-then-load-eq1
returns-then-load-eq1 c = search (rules, after_first)

pub loop-group-preserved : goal.loop-group-preserved
loop-group-preserved c =
    let i : ℕ = c.loop-group.group in
    let crc : ℕ = get_or c.args.crcs.now i 0 in
    let pair = pair_of_crc c.args.load.now c.args.crcs.now i c.requires.valid c.if-load-eq1.false c.requires.one_each c.loop-group-test.true in
    let begun : List ℕ = put_mid (4 * i) (4 * i + 2 - 4 * i) c.loop-group.out c.copy_from_slice.new.self in
    let same = same_len_mid (4 * i) (4 * i + 2 - 4 * i) c.loop-group.out c.copy_from_slice.new.self c.copy_from_slice.auto.self in
    writes_pair c.args.load.now c.args.crcs.now (take (4 * i) c.loop-group.out) _ (with_crcs (groups c.args.load.now) c.args.crcs.now)
    i pair c.loop-group-test.true c.loop-group.invariant
    (number_taken (4 * i + 2) (4 * (i + 1)) crc begun c.write_u16-in-loop-group.new.buf _ _ c.write_u16-in-loop-group.ensures
    (let fits = c.type_inv.crcs i in omega arith) (omega (arith, same, pair)) (omega arith)
    ∙ ap (λ xs. xs ++ low_high crc) (put_taken (4 * i) (4 * i + 2) c.loop-group.out c.copy_from_slice.new.self _ _ (omega (arith, pair)) (omega arith) c.copy_from_slice.ensures.after))
