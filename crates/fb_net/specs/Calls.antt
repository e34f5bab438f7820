-- A net over a list of calls, newest first.
use Rattle.std.specs.Prelude.{◌≡◌, ℕ, Bool, List, [], ◌∷◌, map}
use Rattle.failsafe_io.specs.Application.{Answer}
use Rattle.fb_net.specs.declared.spec.Drive.{Drive}
use Rattle.fb_net.specs.Values.{NetCycle, NetBlock, block_values}
use Rattle.fb_net.specs.Outputs.{driven_images}
use Rattle.fb_net.specs.NetView.{NetView}
use Rattle.fb_net.specs.Standing.{NetFollows, NetGives, KeepsPlan}

-- a call: the cycle, and the lengths of the output images
pub record Call : Type 0 where
  pub cycle : NetCycle
  pub lens : List ℕ

-- the cycles of calls
abbrev pub cycles_of : List Call → List NetCycle
cycles_of calls = map (λ a. a.cycle) calls

-- the outputs of each call, by looking back over the cycles up to it
abbrev pub all_outputs : List NetBlock → List Drive → List Call → List (List (List ℕ))
all_outputs plan drives [] = []
all_outputs plan drives (a ∷ calls) =
    driven_images drives (block_values plan (a.cycle ∷ cycles_of calls)) a.cycle.inputs a.lens ∷ all_outputs plan drives calls

-- a net had these calls, and gave these outputs
abbrev pub Called : NetView → List Call → List (List (List ℕ)) → NetView → Type 0
Called first [] [] last = first ≡ last
Called first (a ∷ calls) (given ∷ outputs) last =
    (v : NetView) × Called first calls outputs v × NetGives v a.cycle a.lens given × NetFollows v a.cycle last × KeepsPlan v last
Called first _ _ last = ⊥

-- what is held after calls, by a rule
abbrev pub held_after : (List ℕ → Bool → List (List ℕ) → List ℕ → Answer) → List ℕ → List Call → List ℕ
held_after rule held [] = held
held_after rule held (a ∷ calls) = (rule (held_after rule held calls) a.cycle.ticked a.cycle.inputs a.lens).holds
