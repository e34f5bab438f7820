use Rattle.std.proofs.lemmas.List.{take_rest}
use Rattle.plant_conf.proofs.Dots.{dot_found, no_dot}
use Rattle.plant_conf.proofs.words.cut.Goals as goal

pub returns-in-Some : goal.returns-in-Some
returns-in-Some c = rw take_rest (dot_found c.args.text.now c.in-Some.at c.in-Some.ensures)

pub returns-in-None : goal.returns-in-None
returns-in-None c = no_dot c.args.text.now c.in-None.ensures
