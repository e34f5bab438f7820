-- What is guarded is false.
use Rattle.fb_net.proofs.Common.{AreOff, Bit, BlockSpec, Drive, NetBlock, NetCycle, bit_at, block_cycles, block_values, common_steps, driven_images, guarded_blocks, guarded_from, is_output_guarded, is_same_bit, is_wire_guarded, list_all, list_any, plan, values_from, wire_value, with_block}
use Rattle.std.proofs.Common.{◌≡◌, ℕ, ◌+◌, ◌<◌, length, drop, Bool, true, false, not, ◌&&◌, ◌||◌, List, [], ◌∷◌, ◌++◌, get_or, map, refl, sym, ap, ◌∙◌, arith, rules}
use Rattle.std.proofs.lemmas.List.Folds.{list_all-map}
use Rattle.fb_lib.specs.Guarded.{is_guarded}
use Rattle.fb_lib.proofs.Guarding.{off_at, value_off as block_off}
use Rattle.fb_net.specs.declared.wire.Wire.{Wire}
use Rattle.fb_net.proofs.Bits.{off_driven}

off-more : (gs vs : List Bool) (g v : Bool) → AreOff gs vs → (g ≡ true → v ≡ false) → AreOff (gs ++ g ∷ []) (vs ++ v ∷ [])
off-more [] [] g v off h = (h, tt)
off-more (x ∷ gs) (y ∷ vs) g v off h = (off.0, off-more gs vs g v off.1 h)
off-more _ _ g v off h = absurd off

-- what a guarded wire reads is false
off-wire : (i : Bit) (gs vs : List Bool) (inputs : List (List ℕ)) (w : Wire) → bit_at inputs i ≡ false → AreOff gs vs
    → is_wire_guarded i gs w ≡ true → wire_value vs inputs w ≡ false
off-wire i gs vs inputs w h k l = search (rules, off_at)

off-wires : (i : Bit) (gs vs : List Bool) (inputs : List (List ℕ)) (ws : List Wire) → bit_at inputs i ≡ false → AreOff gs vs
    → AreOff (map (is_wire_guarded i gs) ws) (map (wire_value vs inputs) ws)
off-wires i gs vs inputs [] zero_in off = tt
off-wires i gs vs inputs (w ∷ ws) zero_in off = (off-wire i gs vs inputs w zero_in off, off-wires i gs vs inputs ws zero_in off)

-- and no drive of a guarded bit reads true
none-on : (i o : Bit) (gs vs : List Bool) (inputs : List (List ℕ)) (ds : List Drive) → bit_at inputs i ≡ false → AreOff gs vs
    → list_all (λ d. not (is_same_bit d.out o) || is_wire_guarded i gs d.from) ds ≡ true
    → list_any (λ d. is_same_bit d.out o && wire_value vs inputs d.from) ds ≡ false
none-on i o gs vs inputs [] zero_in off g = refl
none-on i o gs vs inputs (d ∷ ds) zero_in off g =
    neither (is_same_bit d.out o) (is_wire_guarded i gs d.from) (wire_value vs inputs d.from) _ _ (off-wire i gs vs inputs d.from zero_in off) g
    (none-on i o gs vs inputs ds zero_in off)
  where
    neither : (same guarded on others more : Bool) → (guarded ≡ true → on ≡ false) → ((not same || guarded) && others) ≡ true
        → (others ≡ true → more ≡ false) → ((same && on) || more) ≡ false
    neither same guarded on others more h k l = grind arith

-- a test of each of a list says of all, and of any, what the list of its results does
pub all_told : {X : Type 0} (f : X → Bool) (xs : List X) (told : Bool) → told ≡ list_all f xs → told ≡ list_all (λ g. g) (map f xs)
all_told f xs told is = is ∙ sym (list_all-map (λ g. g) f xs)

pub any_told : {X : Type 0} (f : X → Bool) (xs : List X) (told : Bool) → told ≡ list_any f xs → told ≡ list_any (λ g. g) (map f xs)
any_told f [] told is = is
any_told f (x ∷ xs) told is = is ∙ ap (λ b. f x || b) (any_told f xs (list_any f xs) refl)

-- one more block
pub guarded_more : (blocks : List BlockSpec) (i : ℕ) (b : BlockSpec) (inp : Bit) (gs items all : List Bool) → i < length blocks → b ≡ get_or blocks i b
    → items ≡ gs ++ is_guarded b.block.kind (map (is_wire_guarded inp gs) b.ins) ∷ [] → guarded_from inp gs (plan (drop i blocks)) ≡ all
    → guarded_from inp items (plan (drop (i + 1) blocks)) ≡ all
guarded_more blocks i b inp gs items all h k l m = grind (arith, common_steps)

-- and what looking back says is 0 too
off-values : (i : Bit) (gs : List Bool) (before : List NetCycle → List Bool) (c : NetCycle) (e : List NetCycle) (ps : List NetBlock)
    → bit_at c.inputs i ≡ false → AreOff gs (before (c ∷ e)) → AreOff (guarded_from i gs ps) (values_from before ps (c ∷ e))
off-values i gs before c e [] zero_in off = off
off-values i gs before c e (p ∷ ps) zero_in off =
    off-values i (gs ++ is_guarded p.kind (map (is_wire_guarded i gs) p.ins) ∷ []) (with_block before p) c e ps zero_in
    (off-more gs (before (c ∷ e)) _ _ off
    (λ g. block_off p.kind p.n (map (is_wire_guarded i gs) p.ins) (record { ticked = c.ticked; ins = map (wire_value (before (c ∷ e)) c.inputs) p.ins })
    (block_cycles before p.ins e) (off-wires i gs (before (c ∷ e)) c.inputs p.ins zero_in off) g))

pub value_off : (ps : List NetBlock) (ds : List Drive) (c : NetCycle) (e : List NetCycle) (lens : List ℕ) (o i : Bit)
    → is_output_guarded ps ds o i ≡ true → bit_at c.inputs i ≡ false → bit_at (driven_images ds (block_values ps (c ∷ e)) c.inputs lens) o ≡ false
value_off ps ds c e lens o i g zero_in =
    off_driven ds (block_values ps (c ∷ e)) c.inputs lens o
    (none-on i o (guarded_blocks i ps) (block_values ps (c ∷ e)) c.inputs ds zero_in (off-values i [] (λ _. []) c e ps zero_in tt) g)
