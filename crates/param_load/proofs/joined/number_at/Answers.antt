use Rattle.std.proofs.Common.{◌∙◌}
use Rattle.std.proofs.lemmas.List.{get_or-drop, take_rest}
use native.Mathlib.Numerals.{unary_clauses}
use Rattle.param_load.proofs.joined.number_at.Goals as goal

pub returns : goal.returns
returns c = c.read_u16.ensures ∙ simp (take_rest, get_or-drop, unary_clauses)
