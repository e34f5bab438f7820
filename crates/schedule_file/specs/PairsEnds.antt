-- What is known of the ends of pairs.
use Rattle.std.specs.Prelude.{List}
use Rattle.fsoe_base.specs.declared.lengths.Lengths.{Lengths}
use Rattle.param_load.specs.declared.profile.Profiles.{Profiles}

-- the lengths and the profiles of pairs, in their order
pub record PairsTerms : Type 0 where
  pub lengths : List Lengths
  pub profiles : List Profiles
