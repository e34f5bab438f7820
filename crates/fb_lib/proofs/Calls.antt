-- A block that is stepped through a list of cycles.
use Rattle.std.proofs.Common.{◌≡◌, ℕ, Bool, List, [], ◌∷◌, refl, sym, ap₂, ◌∙◌}
use Rattle.fb_lib.specs.declared.kind.BlockKind.{BlockKind}
use Rattle.fb_lib.specs.Cycle.{Cycle}
use Rattle.fb_lib.specs.Standing.{values, BlockStands, Stepped}
use Rattle.fb_lib.specs.Steps.{BlockView}

pub stands : (k : BlockKind) (n : ℕ) (first last : BlockView) (e : List Cycle) (outputs : List Bool) → BlockStands k n first [] → Stepped first e outputs last → BlockStands k n last e
stands k n first last [] [] new done = record { is = sym done ∙ new.is }
stands k n first last (c ∷ e) (given ∷ outputs) new done = done.3.stands k n e (stands k n first done.0 e outputs new done.1)
stands k n first last _ _ new done = absurd done

pub outputs_are : (k : BlockKind) (n : ℕ) (first last : BlockView) (e : List Cycle) (outputs : List Bool) → BlockStands k n first [] → Stepped first e outputs last → outputs ≡ values k n e
outputs_are k n first last [] [] new done = refl
outputs_are k n first last (c ∷ e) (x ∷ outputs) new done =
    ap₂ (λ (b : Bool) (bs : List Bool). b ∷ bs) (done.2.gives k n e (stands k n first done.0 e outputs new done.1)) (outputs_are k n first done.0 e outputs new done.1)
outputs_are k n first last _ _ new done = absurd done
