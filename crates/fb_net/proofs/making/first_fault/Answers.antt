use Rattle.fb_net.proofs.Common.{first_fault}
use Rattle.fb_net.proofs.Faults.{is_new}
use Rattle.std.proofs.Common.{◌≡◌, sym, ◌∙◌, rules}
use Rattle.fb_net.proofs.making.first_fault.Goals as goal

pub returns-clause-none : goal.returns-clause-none
returns-clause-none _ c =
    let first : c.drives_fault.result ≡ first_fault c.args.ins.now c.args.outs.now c.args.blocks.now c.args.drives.now = search rules in
    λ none new. is_new _ _ _ _ new (sym first ∙ none)
