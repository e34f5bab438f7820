-- Lists of another number of words than a command has.
use Rattle.std.proofs.Common.{Global, ◌≡◌, ◌<◌, List, [], ◌∷◌, length, map, None, refl, arith, string_bytes}
use Rattle.std.specs.Prelude.{◌≢◌, String}
use Rattle.fsoe_lab.specs.Command.{rates_said, trial_said}

pub too_few : (words : List (String Global)) → length words < 2 → None ≡ trial_said (map string_bytes words)
too_few (a ∷ b ∷ words) h = absurd (omega arith)
too_few _ h = refl

pub no_rates : (words : List (String Global)) → length words ≢ 0 → length words ≢ 4 → None ≡ rates_said (map string_bytes words)
no_rates [] none four = absurd (none refl)
no_rates (a ∷ b ∷ c ∷ d ∷ []) none four = absurd (four refl)
no_rates _ none four = refl
