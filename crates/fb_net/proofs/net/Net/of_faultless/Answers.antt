use Rattle.fb_net.proofs.Common.{CanRun, IsNewNet, NetView, new_net}
use Rattle.std.proofs.Common.{◌≡◌, ◌≤◌, Bool, List, [], false, length, replicate, take, ap, subst, sym, arith, rules}
use Rattle.std.proofs.lemmas.List.{take-replicate}
use Rattle.fb_net.proofs.net.Net.of_faultless.Goals as goal

pub invariant_of-result : goal.invariant_of-result
invariant_of-result _ c =
    let new = c.requires.faultless in
    let run : CanRun c.args.blocks.items = record { ready = new.ready; past = []; stands = new.stands.blocks } in
    search rules

pub returns : goal.returns
returns _ c =
    let few : length c.args.blocks.items ≤ 256 = omega arith in
    let with : List Bool → NetView = λ vs. record { blocks = c.args.blocks.items; drives = c.args.drives.items; values = vs } in
    let made : with (take (length c.args.blocks.items) (replicate 256 false)) ≡ new_net c.args.blocks.items c.args.drives.items = ap with (take-replicate (length c.args.blocks.items) 256 false few) in
    record { made = made; is_new = subst IsNewNet (sym made) c.requires.faultless }
