use Rattle.duo_run.proofs.Common.{None, pairs_of}
use Rattle.std.proofs.Common.{◌≡◌, ◌≤◌, ℕ, length, replicate, ap, ◌∙◌, arith, rules}
use Rattle.duo_run.proofs.Pairs.Begun.{all_same_lengths, pairs_begin}
use Rattle.duo_run.proofs.pairs_run.PairsRunMachine.begin.Goals as goal

pub new_pairs-requires : goal.new_pairs-requires
new_pairs-requires c = all_same_lengths (pairs_of c.args.header.now) c.in_ok-settings.settings.items c.in_ok-settings.ensures.set

pub returns-clause-stands : goal.returns-clause-stands
returns-clause-stands c =
    let many : c.len.result ≡ length c.in_ok-settings.settings.items = omega (arith, c.len.ensures, c.in_ok-settings.settings.ok.0) in
    let few : length c.in_ok-settings.settings.items ≤ 16 = omega (arith, c.in_ok-settings.ensures.most, c.in_ok-settings.settings.ok.0) in
    let none : c.in-Ok.others.items ≡ replicate c.len.result None = search rules in
    pairs_begin c.args.header.now c.in_ok-settings.settings.items c.in_ok-new_pairs.field-0.items c.in-Ok.others.items c.requires.done c.in_ok-settings.ensures.set few c.in_ok-new_pairs.ensures (none ∙ ap (λ (n : ℕ). replicate n None) many)
