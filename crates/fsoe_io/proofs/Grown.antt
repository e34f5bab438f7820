-- Writes one after another.
use Rattle.std.proofs.Common.{ℕ, List, ◌++◌, arith}
use Rattle.std.specs.declared.option.Option.{Option}
use Rattle.fsoe_io.specs.Sink.{Grew}
use Rattle.std.proofs.lemmas.Grind.{common_steps}

pub grew_then : (a b c : Option (List ℕ)) (x y : List ℕ) → Grew a b x → Grew b c y → Grew a c (x ++ y)
grew_then a b c x y h k = grind (arith, common_steps)
