-- A block that is stepped stands for its cycles and gives what looking back says.
use Rattle.std.proofs.Common.{◌≡◌, ℕ, ◌<◌, if◌then◌else◌, Bool, List, [], ◌∷◌, map, refl, ap, ◌∙◌, arith, rules}
use Rattle.std.specs.List.{list_any}
use Rattle.fb_lib.specs.declared.held.Held.{Held}
use Rattle.fb_lib.specs.declared.held.Held.TheVariants as held
use Rattle.fb_lib.specs.declared.kind.BlockKind.{BlockKind}
use Rattle.fb_lib.specs.declared.kind.BlockKind.TheVariants as kind
use Rattle.fb_lib.specs.declared.two_hand.TwoHand.{TwoHand}
use Rattle.fb_lib.specs.Cycle.{Cycle, first}
use Rattle.fb_lib.specs.LookBack.{run_until_now}
use Rattle.fb_lib.specs.Value.{ticked_cycles, since_input, Watched, value}
use Rattle.fb_lib.specs.Steps.{BlockView, risen, next_held, next_block, block_gives}
use Rattle.fb_lib.specs.Standing.{BlockFollows, BlockGives}
use Rattle.fb_lib.specs.Kept.{held_of}
use Rattle.fb_lib.proofs.Hands.{hands_of-next}
use Rattle.fb_lib.proofs.Ticks.{on_age-next, off_left-next}
use Rattle.std.proofs.lemmas.Grind.{common_steps}

-- for how long the contactor hasn't followed, after one more cycle
age-next : (q : Bool) (w : Watched) (ws : List Watched) → (if q then risen (ticked_cycles (map (λ v. v.cycle) ws)) w.cycle.ticked else 0) ≡ ticked_cycles (map (λ v. v.cycle) (if q then w ∷ ws else []))
age-next q w ws = grind (arith, common_steps)

feedback-next : (n : ℕ) (e : List Cycle) (c : Cycle) → next_held n (held_of kind.Feedback n e) c ≡ held_of kind.Feedback n (c ∷ e)
feedback-next n e c = search (rules, age-next)

-- what a block keeps goes on as looking back says
next-is : (k : BlockKind) (n : ℕ) (e : List Cycle) (c : Cycle) → n < 65536 → next_held n (held_of k n e) c ≡ held_of k n (c ∷ e)
next-is kind.TwoHand n e c h = ap (λ (h : TwoHand). held.TwoHand h) (hands_of-next n e c)
next-is kind.OnDelay n e c h = ap (λ (age : ℕ). held.OnDelay (record { age = age })) (on_age-next n c (run_until_now first e) (first c) h)
next-is kind.OffDelay n e c h = ap (λ (left : ℕ). held.OffDelay (record { left = left })) (off_left-next n c (since_input e) (first c) (list_any first e) h)
next-is kind.Feedback n e c h = feedback-next n e c
next-is _ n e c h = refl

-- what it gives is the value
told-is : (k : BlockKind) (n : ℕ) (e : List Cycle) (c : Cycle) → n < 65536 → block_gives n (held_of k n (c ∷ e)) c ≡ value k n (c ∷ e)
told-is k n e c h = grind arith

pub follows_by : (old new : BlockView) (c : Cycle) → old.n < 65536 → new ≡ next_block old c → BlockFollows old c new
follows_by old new c fits is = record {
  stands = λ k n e s. record {
    is =
        let m : old.n ≡ n = ap (λ (v : BlockView). v.n) s.is in
        is ∙ ap (λ (v : BlockView). next_block v c) s.is
        ∙ ap (λ (h : Held). let v : BlockView = record { kind = k; n = n; held = h } in v) (next-is k n e c (omega arith));
  };
}

pub gives_by : (old new : BlockView) (c : Cycle) (given : Bool) → old.n < 65536 → new ≡ next_block old c → given ≡ block_gives new.n new.held c → BlockGives old c given
gives_by old new c given fits is h = record {
  gives = λ k n e s.
      let m : old.n ≡ n = ap (λ (v : BlockView). v.n) s.is in
      h ∙ ap (λ (v : BlockView). block_gives v.n v.held c) (((follows_by old new c fits is).stands k n e s).is) ∙ told-is k n e c (omega arith);
}
