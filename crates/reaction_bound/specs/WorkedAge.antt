-- Worked ages: with a watchdog of five ticks outputs get eight ticks old, and no older.
use Rattle.std.specs.Prelude.{ℕ, ◌≡◌, List, [], ◌∷◌, ◌++◌, replicate, Option, Some, None}
use Rattle.fsoe_base.specs.declared.command.End.{End}
use Rattle.fsoe_base.specs.declared.command.End.TheVariants as side
use Rattle.schedule_file.specs.declared.event.Event.{Event}
use Rattle.schedule_file.specs.declared.event.Event.TheVariants as event
use Rattle.exchange_model.specs.Schedules.{dm, ds, tm, ts, until_data}
use Rattle.exchange_model.specs.Other.{NoOther}
use Rattle.exchange_model.specs.WorkedOffering.{short_run}
use Rattle.exchange_model.specs.WorkedRuns.{forged_data_run}
use Rattle.reaction_bound.specs.Age.{age_of, worst_of}

-- the age of an end's outputs after a run
abbrev pub age_after : End → List Event → Option ℕ
age_after which events = age_of which (short_run events)

-- an end's outputs are eight ticks old after a run, which is the greatest age, and are from no item after one more tick
pub record IsOldest (which : End) (events : List Event) : Type 0 where
  pub none_other : NoOther (short_run events)
  pub oldest : age_after which events ≡ Some 8
  pub worst : worst_of which (short_run events) ≡ Some 8
  pub no_older : age_after which (events ++ event.Tick which ∷ []) ≡ None

-- each end shows as old outputs as may be; and outputs that have no age
pub record WorkedAges : Type 0 where
  -- the slave takes the master's last frame four ticks after it was sent, and four more pass
  pub slave : IsOldest side.Slave (until_data ++ replicate 4 ts ++ ds 1 ∷ replicate 4 ts)
  -- the master takes the slave's
  pub master : IsOldest side.Master (until_data ++ ds 1 ∷ replicate 4 tm ++ dm 1 ∷ replicate 4 tm)
  -- data that the peer didn't send have no age, though the slave shows them
  pub forged : age_of side.Slave forged_data_run ≡ None
