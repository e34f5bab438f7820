-- How a whole run ends that looks for other entries.
use Rattle.file_run.proofs.Common.{EndsWhole, Some, ended_with}
use Rattle.std.proofs.Common.{◌≡◌, ◌<◌, ℕ, true, arith}
use Rattle.std.specs.Prelude.{Option}

pub ended_whole : (other : Option ℕ) → ((n : ℕ) → other ≡ Some n → 0 < n) → EndsWhole true (ended_with other).status (ended_with other).place
ended_whole other h = grind arith
