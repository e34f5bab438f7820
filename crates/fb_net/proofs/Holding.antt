-- What a net holds as numbers is what its blocks keep.
use Rattle.fb_net.proofs.Common.{BlockSpec, BlockStands, BlocksStand, Cycle, NetBlock, NetCycle, all_restored, flag, given, held_values, holds_of, kept_numbers, net_block, plan, run_blocks, with_block}
use Rattle.std.proofs.Common.{◌≡◌, ℕ, Bool, List, [], ◌∷◌, ◌++◌, drop, length, refl, ap, ◌∙◌, arith}
use Rattle.fb_lib.specs.declared.held.Held.{Held}

restored-first : (b : BlockSpec) (e : List Cycle) (ps : List NetBlock) (value : ℕ) (held : List ℕ) → BlockStands b.block.kind b.block.n b.block e
    → all_restored (net_block b ∷ ps) (kept_numbers b.block.held ++ value ∷ held) ≡ b ∷ all_restored ps held
restored-first b e ps value held s = grind arith

pub all_restored-back : (before : List NetCycle → List Bool) (bs : List BlockSpec) (values : List Bool) (e : List NetCycle) → BlocksStand before bs e
    → all_restored (plan bs) (holds_of bs values) ≡ bs
all_restored-back before [] values e s = refl
all_restored-back before (b ∷ bs) values e s =
    restored-first b _ (plan bs) _ (holds_of bs (drop 1 values)) s.0 ∙ ap (λ (xs : List BlockSpec). b ∷ xs) (all_restored-back (with_block before (net_block b)) bs (drop 1 values) e s.1)

-- so are its values
first-held : (h : Held) (on : Bool) (held : List ℕ) → held_values (kept_numbers h ++ flag on ∷ held) ≡ on ∷ held_values held
first-held h on held = grind arith

pub values_back : (bs : List BlockSpec) (values : List Bool) → length values ≡ length bs → held_values (holds_of bs values) ≡ values
values_back [] [] h = refl
values_back (b ∷ bs) (v ∷ values) h = first-held b.block.held v (holds_of bs values) ∙ ap (λ (vs : List Bool). v ∷ vs) (values_back bs values (omega arith))
values_back _ _ h = absurd (cc h)

-- a cycle leaves what the blocks were made as
pub plan_stays : (values : List Bool) (c : NetCycle) (bs : List BlockSpec) → plan (run_blocks values c bs) ≡ plan bs
plan_stays values c [] = refl
plan_stays values c (b ∷ bs) = ap (λ (ps : List NetBlock). net_block b ∷ ps) (plan_stays (values ++ given values c b ∷ []) c bs)
