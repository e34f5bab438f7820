-- What holds of a plant's offers after each act: all are the application's answer, which keeps off what is guarded.
-- This rests on what an application promises. Acts are listed newest first.
use Rattle.std.specs.Prelude.{List, [], ◌∷◌, IfSome}
use Rattle.multi_master.specs.Calls.{IsSound}
use Rattle.plant_model.specs.Acts.{Beginning, Act, masters, act_cycle}

-- the answer of each of these acts that ran a cycle is sound after it
abbrev pub AllSound : Beginning → List Act → Type 0
AllSound b [] = Unit {0}
AllSound b (act ∷ acts) = IfSome (act_cycle b act acts) (IsSound (masters b (act ∷ acts))) × AllSound b acts
