-- The values of the blocks that are stepped in order are what looking back over the net's cycles says.
use Rattle.fb_net.proofs.Common.{AllReady, BlockSpec, BlockStands, BlocksStand, CanRun, Cycle, IsReady, NetBlock, NetCycle, block_cycles, cycle_of, follows_by, given, gives_by, net_block, next_block, next_held, plan, run_blocks, run_values, block_gives, shown_values, values_from, with_block}
use Rattle.std.proofs.Common.{◌≡◌, ◌+◌, Bool, false, List, [], ◌∷◌, ◌++◌, arith, length, length-append, refl, sym, ap, subst, ◌∙◌}
use Rattle.std.proofs.lemmas.List.{length-replicate}
use Rattle.fb_lib.specs.Value.{value}
use Rattle.fb_net.proofs.Holding.{plan_stays}

-- what a block gives in the net is its value
more-is : (before : List NetCycle → List Bool) (b : BlockSpec) (c : NetCycle) (e : List NetCycle) → IsReady (net_block b)
    → BlockStands b.block.kind b.block.n b.block (block_cycles before b.ins e)
    → before (c ∷ e) ++ given (before (c ∷ e)) c b ∷ [] ≡ with_block before (net_block b) (c ∷ e)
more-is before b c e r s =
    let d : Cycle = cycle_of (before (c ∷ e)) c b.ins in
    ap (λ (v : Bool). before (c ∷ e) ++ v ∷ [])
    ((gives_by b.block (next_block b.block d) d (block_gives b.block.n (next_held b.block.n b.block.held d) d) r.fits refl refl).gives
    b.block.kind b.block.n (block_cycles before b.ins e) s)

pub values_are : (before : List NetCycle → List Bool) (bs : List BlockSpec) (c : NetCycle) (e : List NetCycle) → AllReady (plan bs)
    → BlocksStand before bs e → run_values (before (c ∷ e)) c bs ≡ values_from before (plan bs) (c ∷ e)
values_are before [] c e r s = refl
values_are before (b ∷ bs) c e r s =
    ap (λ (vs : List Bool). run_values vs c bs) (more-is before b c e r.0 s.0) ∙ values_are (with_block before (net_block b)) bs c e r.1 s.1

pub blocks_stand : (before : List NetCycle → List Bool) (bs : List BlockSpec) (c : NetCycle) (e : List NetCycle) → AllReady (plan bs)
    → BlocksStand before bs e → BlocksStand before (run_blocks (before (c ∷ e)) c bs) (c ∷ e)
blocks_stand before [] c e r s = tt
blocks_stand before (b ∷ bs) c e r s =
    let P : List Bool → Type 0 = λ vs. BlocksStand (with_block before (net_block b)) (run_blocks vs c bs) (c ∷ e) in
    let d : Cycle = cycle_of (before (c ∷ e)) c b.ins in (
      (follows_by b.block (next_block b.block d) d r.0.fits refl).stands b.block.kind b.block.n (block_cycles before b.ins e) s.0,
      subst P (sym (more-is before b c e r.0 s.0)) (blocks_stand (with_block before (net_block b)) bs c e r.1 s.1),
    )

-- each block has a value
values-long : (before : List NetCycle → List Bool) (ps : List NetBlock) (e : List NetCycle) → length (values_from before ps e) ≡ length (before e) + length ps
values-long before [] e = omega arith
values-long before (p ∷ ps) e = omega (arith, values-long (with_block before p) ps e, length-append (before e) (value p.kind p.n (block_cycles before p.ins e) ∷ []))

pub shown_long : (ps : List NetBlock) (e : List NetCycle) → length (shown_values ps e) ≡ length ps
shown_long ps [] = length-replicate (length ps) false
shown_long ps (c ∷ e) = omega (arith, values-long (λ _. []) ps (c ∷ e))

-- so blocks that can be stepped can be stepped again
pub can_run : (old new : List BlockSpec) (c : NetCycle) → CanRun old → new ≡ run_blocks [] c old → CanRun new
can_run old new c r is = rw is (record {
  ready = subst AllReady (sym (plan_stays [] c old)) r.ready;
  past = c ∷ r.past;
  stands = blocks_stand (λ _. []) old c r.past r.ready r.stands;
})
