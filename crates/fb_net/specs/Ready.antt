-- When the blocks of a net can be stepped.
use Rattle.std.specs.Prelude.{◌<◌, IsTrue, List, [], ◌∷◌, length}
use Rattle.fb_lib.specs.Kind.{takes_inputs}
use Rattle.fb_net.specs.Values.{NetBlock}

-- a block has as many wires as its kind may have inputs
pub record IsReady (p : NetBlock) : Type 0 where
  pub takes : IsTrue (takes_inputs p.kind (length p.ins))
  pub fits : p.n < 65536

abbrev pub AllReady : List NetBlock → Type 0
AllReady [] = Unit {0}
AllReady (p ∷ ps) = IsReady p × AllReady ps
