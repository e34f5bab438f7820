-- A net without a fault can run.
use Rattle.fb_net.proofs.Common.{All, AllReady, BlockSpec, BlocksStand, Drive, IsNewNet, NetCycle, block_fault, blocks_fault, drives_fault, first_fault, net_block, new_net, plan, takes_inputs, with_block}
use Rattle.std.proofs.Common.{◌≡◌, ℕ, ◌+◌, IsTrue, Bool, List, [], ◌∷◌, length, replicate, false, Option, Some, None, if◌then◌else◌, sym, ap, arith}
use Rattle.std.proofs.lemmas.List.{length-map}
use Rattle.std.specs.Option.{option_or}
use Rattle.std.proofs.lemmas.List.Elements.{All-head, All-tail}
use Rattle.fb_net.specs.declared.fault.NetFault.{NetFault}
use Rattle.fb_net.specs.New.{IsNew}

both-none : (a b : Option NetFault) → option_or a b ≡ None → (a ≡ None) × (b ≡ None)
both-none a b h = grind arith

allowed : (q : Bool) (f : NetFault) (rest : Option NetFault) → (if q then rest else Some f) ≡ None → IsTrue q
allowed q f rest h = grind arith

ready-by : (ins : List ℕ) (before : ℕ) (bs : List BlockSpec) → All IsNew bs → blocks_fault ins before bs ≡ None → AllReady (plan bs)
ready-by ins before [] new h = tt
ready-by ins before (b ∷ bs) new h =
    let t = both-none (block_fault ins before b) (blocks_fault ins (before + 1) bs) h in (
      record { takes = allowed (takes_inputs b.block.kind (length b.ins)) _ _ t.0; fits = (All-head IsNew b bs new).fits },
      ready-by ins (before + 1) bs (All-tail IsNew b bs new) t.1,
    )

stand-new : (before : List NetCycle → List Bool) (bs : List BlockSpec) → All IsNew bs → BlocksStand before bs []
stand-new before [] new = tt
stand-new before (b ∷ bs) new = ((All-head IsNew b bs new).stands, stand-new (with_block before (net_block b)) bs (All-tail IsNew b bs new))

pub is_new : (ins outs : List ℕ) (bs : List BlockSpec) (ds : List Drive) → All IsNew bs → first_fault ins outs bs ds ≡ None
    → IsNewNet (new_net bs ds)
is_new ins outs bs ds new h = record {
  ready = ready-by ins 0 bs new ((both-none (blocks_fault ins 0 bs) (drives_fault ins outs (length bs) [] ds) h).0);
  stands = record { blocks = stand-new (λ _. []) bs new; values_are = ap (λ n. replicate n false) (sym (length-map bs net_block)) };
}
