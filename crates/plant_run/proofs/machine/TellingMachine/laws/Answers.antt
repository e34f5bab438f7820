use Rattle.plant_run.proofs.Common.{Start}
use Rattle.std.proofs.Common.{[], ◌∷◌, refl}
use Rattle.plant_run.proofs.Scripted.{plant_ends, plant_so_far, some_report}
use Rattle.plant_run.proofs.machine.TellingMachine.laws.Goals as goal

pub returns-clause-some : goal.returns-clause-some
returns-clause-some g c = λ given bytes. some_report (record { begins = record { links = given.conf.now.links; app = _; seed = given.conf.now.seed }; bounds = given.conf.now.bounds; spare = _ }) _

pub returns-clause-headless : goal.returns-clause-headless
returns-clause-headless g c = λ handed number why. (Start ∷ [], refl, refl, refl, refl)

pub returns-clause-so_far : goal.returns-clause-so_far
returns-clause-so_far g c = λ first v now h log text stands. plant_so_far stands.2

pub returns-clause-whole : goal.returns-clause-whole
returns-clause-whole g c = λ first now h log text ended closes. plant_ends closes
