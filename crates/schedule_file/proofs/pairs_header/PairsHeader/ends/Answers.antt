use Rattle.schedule_file.proofs.Common.{length_push, pairs_of}
use Rattle.std.proofs.Common.{length, ap, ◌∙◌, rules}
use Rattle.schedule_file.specs.PairsEnds.{PairsTerms}
use Rattle.schedule_file.proofs.Pairs.{map-next, same_ends}
use Rattle.schedule_file.proofs.pairs_header.PairsHeader.ends.Goals as goal

pub loop-before-preserved : goal.loop-before-preserved
loop-before-preserved c =
    let pair = c.pair-pair.result.now in
    let lengths = c.lengths-in-loop-before.result in
    let profiles = c.profiles-in-loop-before.result in
    let lengths_are = ap (λ (t : PairsTerms). t.lengths) c.push.ensures in
    let profiles_are = ap (λ (t : PairsTerms). t.profiles) c.push.ensures in
    let many = ap length lengths_are ∙ length_push c.loop-before.ends.lengths lengths in
    let same = ap length profiles_are ∙ length_push c.loop-before.ends.profiles profiles in
    search (rules, map-next, pairs_of, same_ends)
