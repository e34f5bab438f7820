-- Inputs of two pairs, whose headers are alike, and lines after such a header.
use Rattle.std.specs.Prelude.{ℕ, List, [], ◌∷◌, ◌++◌, codes, Result}
use Rattle.param_load.specs.declared.profile.Profile.TheVariants as profile
use Rattle.schedule_file.specs.Input.{InputOf}
use Rattle.schedule_file.specs.PairsEvent.{pairs_line}
use Rattle.schedule_file.specs.PairsHeader.{PairsHeading}
use Rattle.schedule_file.specs.PairsInput.{pairs_input}
use Rattle.schedule_file.specs.declared.line_cause.LineCause.{LineCause}
use Rattle.schedule_file.specs.declared.pairs_line.PairsEvent.{PairsEvent}
use Rattle.schedule_file.specs.declared.pairs_line.PairsLine.{PairsLine}

-- the lines of a pair in profile One with two safe data bytes each way and no application bytes
abbrev pub pair_lines : List ℕ
pair_lines = codes "lengths 2 2\nmaster 1 2 100 1\nslave 2 200 1000 2\nrule any 0\n"

-- the header of two such pairs
abbrev pub two_pairs : List ℕ
two_pairs = codes "fsoe 2 pairs\npair 1\n" ++ pair_lines ++ codes "pair 2\n" ++ pair_lines ++ codes "go\n"

-- what an input says that has this after the header
abbrev pub pairs_with : List ℕ → InputOf PairsHeading PairsEvent
pairs_with text = pairs_input (two_pairs ++ text)

-- what a line says to two such pairs
abbrev pub says_to_two : List ℕ → Result PairsLine LineCause
says_to_two text = pairs_line ((λ end. 2) ∷ (λ end. 2) ∷ []) ((λ end. profile.One) ∷ (λ end. profile.One) ∷ []) text
