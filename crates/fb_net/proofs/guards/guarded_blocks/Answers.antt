use Rattle.fb_net.proofs.Common.{is_wire_guarded}
use Rattle.std.proofs.Common.{◌≡◌, [], ◌∷◌, ◌++◌, map, arith, rules}
use Rattle.fb_lib.specs.Guarded.{is_guarded}
use Rattle.fb_net.proofs.Guarding.{guarded_more}
use Rattle.fb_net.proofs.guards.guarded_blocks.Goals as goal

pub loop-i-preserved : goal.loop-i-preserved
loop-i-preserved _ c =
    let gs = c.loop-i.guarded.items in
    let b = c.index-blocks-i.result in
    let made : c.push.new.self.items ≡ gs ++ is_guarded b.block.kind (map (is_wire_guarded c.args.inp gs) b.ins) ∷ [] = cc in
    record { counted = omega arith; guarded = search (rules, guarded_more) }
