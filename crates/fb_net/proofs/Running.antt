-- The blocks of a net that are stepped in order.
use Rattle.fb_net.proofs.Common.{AllReady, BlockSpec, IsReady, NetCycle, common_steps, given, net_block, plan, run_blocks, run_values, block_after, take-set_at}
use Rattle.std.proofs.Common.{◌≡◌, ℕ, zero, suc, ◌+◌, ◌<◌, ◌≤◌, Bool, List, [], ◌∷◌, ◌++◌, length, get_or, take, drop, set, refl, sym, ap, ◌∙◌, arith}
use Rattle.std.proofs.lemmas.List.{append-nil, drop_all, take_all}

pub ready_at : (bs : List BlockSpec) (i : ℕ) (d : BlockSpec) → AllReady (plan bs) → i < length bs → IsReady (net_block (get_or bs i d))
ready_at [] i d r h = absurd (omega arith)
ready_at (b ∷ bs) zero d r h = r.0
ready_at (b ∷ bs) (suc i) d r h = ready_at bs i d r.1 (omega arith)

pub same_at : (bs first : List BlockSpec) (i : ℕ) (d : BlockSpec) → i < length bs → drop i bs ≡ drop i first → get_or bs i d ≡ get_or first i d
same_at bs first i d h k = grind (arith, common_steps)

pub rest_after : (bs first : List BlockSpec) (i : ℕ) (b new : BlockSpec) → i < length bs → b ≡ get_or bs i b → drop i bs ≡ drop i first
    → drop (i + 1) (set bs i new) ≡ drop (i + 1) first
rest_after bs first i b new h k l = grind (arith, common_steps)

-- what a step of a block gives, where the values and the block are read before it
pub value_is : (values : List Bool) (i : ℕ) (c : NetCycle) (b at : BlockSpec) (v : Bool) → i < length values → b ≡ at → v ≡ given (take i values) c at
    → take (i + 1) (set values i v) ≡ take i values ++ given (take i values) c b ∷ []
value_is values i c b at v h same is = take-set_at values i (i + 1) v refl h ∙ ap (λ (x : Bool). take i values ++ x ∷ []) (rw same is)

pub values_more : (bs first : List BlockSpec) (i : ℕ) (b : BlockSpec) (values items : List Bool) (c : NetCycle) (all : List Bool)
    → i < length bs → b ≡ get_or bs i b → drop i bs ≡ drop i first → items ≡ values ++ given values c b ∷ []
    → run_values values c (drop i first) ≡ all
    → run_values items c (drop (i + 1) first) ≡ all
values_more bs first i b values items c all h k l m n = grind (arith, common_steps)

pub blocks_more : (bs first : List BlockSpec) (i : ℕ) (b new : BlockSpec) (values items : List Bool) (c : NetCycle) (all : List BlockSpec)
    → i < length bs → b ≡ get_or bs i b → drop i bs ≡ drop i first → items ≡ values ++ given values c b ∷ [] → new ≡ block_after values c b
    → take i bs ++ run_blocks values c (drop i first) ≡ all
    → take (i + 1) (set bs i new) ++ run_blocks items c (drop (i + 1) first) ≡ all
blocks_more bs first i b new values items c all h k l m n o = grind (arith, common_steps)

pub blocks_all : (bs first : List BlockSpec) (i : ℕ) (values : List Bool) (c : NetCycle) → length bs ≡ length first → length first ≤ i
    → take i bs ++ run_blocks values c (drop i first) ≡ run_blocks [] c first → bs ≡ run_blocks [] c first
blocks_all bs first i values c h k l = sym (append-nil bs) ∙ (rw (take_all i bs (omega arith), drop_all i first k) at l)
