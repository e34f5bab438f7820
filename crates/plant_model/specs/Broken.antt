-- What a broken bound tells. Acts are listed newest first.
use Rattle.std.specs.Prelude.{◌≡◌, List, None}
use Rattle.plant_conf.specs.declared.conf.BoundSpec.{BoundSpec}
use Rattle.plant_conf.specs.declared.conf.LinkConf.{LinkConf}
use Rattle.plant_model.specs.Acts.{Act, Beginning, journal}
use Rattle.plant_model.specs.Bound.{HasLinks, AreClean}
use Rattle.plant_model.specs.BoundLines.{broken_at}

-- no tick is late for a bound of which neither pair has an other entry: a bound is broken only where one has
abbrev pub BrokenByOther : Beginning → List Act → Type 0
BrokenByOther b acts =
    (bound : BoundSpec) (estop drive : LinkConf) → HasLinks b bound estop drive → AreClean bound estop drive (journal b acts)
    → broken_at b bound acts ≡ None
