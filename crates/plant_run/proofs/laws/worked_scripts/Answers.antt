use Rattle.std.proofs.Common.{refl}
use Rattle.hex.proofs.OnLiterals.{hex_on_literals}
use Rattle.plant_run.specs.WorkedScripts.{SevenTicksScript, Stops, NoTitles}
use Rattle.plant_run.proofs.laws.worked_scripts.Goals as goal

pub returns : goal.returns
unfolding SevenTicksScript Stops NoTitles hex_on_literals
returns c = record {
  seven_ticks = refl;
  stops = (refl, refl, refl, refl, refl);
  no_titles = (refl, refl);
}
