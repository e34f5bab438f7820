-- The run of one of two machines by the first line is a replay of the version that this line tells.
use Rattle.duo_run.proofs.Common.{ByTitle, Ended, IfSome, IsTitled, None, Option, Outside, RanOver, RanPair, RanPairs, Some, pairs_reporting, replay_reporting}
use Rattle.std.proofs.Common.{ℕ, List, arith}
use Rattle.std.specs.Prelude.{◌⊎◌}
use Rattle.duo_run.specs.Version.{RanReplay, pairs_title}
use Rattle.duo_run.proofs.Pair.FairReplay.{told_fairly, told_serve, told_steadily}
use Rattle.duo_run.proofs.Pairs.Fair.{told_pairs_fairly}

pairs_ran : (ended : Ended) (o : Outside) → RanOver pairs_reporting ended o → RanPairs ended o
pairs_ran ended o ran = record { run = ran; fair = told_pairs_fairly o.source.before }

pub pair_ran : (ended : Ended) (o : Outside) → RanOver replay_reporting ended o → RanPair ended o
pair_ran ended o ran = record {
  run = ran;
  fair = told_fairly o.source.before;
  serves = told_serve o.source.before;
  serves_steadily = told_steadily o.source.before;
}

one_ran : (A B X Y : Type 0) → (A → X) → (B → Y) → A ⊎ B → X ⊎ Y
one_ran A B X Y h k l = grind arith

if_told : (told : Option (List ℕ)) (P : List ℕ → Type 0) (A X : Type 0) → (A → X) → IfSome told (λ input. P input → A) → IfSome told (λ input. P input → X)
if_told None P A X f ran = tt
if_told (Some input) P A X f ran = λ is. f (ran is)

pub ran_replay : (ended : Ended) (o : Outside) → ByTitle pairs_title o.source.before (RanOver pairs_reporting ended o) (RanOver replay_reporting ended o) → RanReplay ended o
ran_replay ended o ran = record {
  one = one_ran _ _ _ _ (pairs_ran ended o) (pair_ran ended o) ran.one;
  with_title = if_told o.source.before (IsTitled pairs_title) _ _ (pairs_ran ended o) ran.with_title;
  without = if_told o.source.before (λ input. IsTitled pairs_title input → ⊥) _ _ (pair_ran ended o) ran.without;
}
