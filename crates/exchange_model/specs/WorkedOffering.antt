-- Worked runs in which an end shows its peer's offer for as long as may be: with a watchdog of five ticks, eight after
-- the peer's last frame.
use Rattle.std.specs.Prelude.{ℕ, ◌≡◌, List, [], ◌∷◌, ◌++◌, take, replicate}
use Rattle.fsoe_base.specs.declared.command.End.{End}
use Rattle.fsoe_base.specs.declared.command.End.TheVariants as side
use Rattle.param_load.specs.declared.entry.Entry.{Entry}
use Rattle.schedule_file.specs.declared.event.Event.{Event}
use Rattle.schedule_file.specs.declared.event.Event.TheVariants as event
use Rattle.end_model.specs.WorkedRuns.{slave_values}
use Rattle.exchange_model.specs.Ends.{peer, of_end}
use Rattle.exchange_model.specs.World.{world}
use Rattle.exchange_model.specs.Schedules.{dm, ds, tm, ts, until_data}
use Rattle.exchange_model.specs.Other.{NoOther}
use Rattle.exchange_model.specs.Fair.{outputs_due}
use Rattle.exchange_model.specs.Offering.{ticks_of}
use Rattle.exchange_model.specs.WorkedRuns.{short_watchdog}

-- the entries of a run with a watchdog of five ticks
abbrev pub short_run : List Event → List Entry
short_run events = world short_watchdog slave_values events

-- the outputs of an end after it
abbrev pub shown_after : End → List Event → List ℕ
shown_after which events = outputs_due 2 (of_end which (short_run events))

-- an end shows this load after a run whose newest nine entries, eight of them ticks, are its own, and no longer after
-- one more tick
pub record ShowsLongest (which : End) (load : List ℕ) (events : List Event) : Type 0 where
  pub none_other : NoOther (short_run events)
  pub own_entries : of_end (peer which) (take 9 (short_run events)) ≡ []
  pub eight_ticks : ticks_of which (take 9 (short_run events)) ≡ 8
  pub shows_load : shown_after which events ≡ load
  pub no_longer : shown_after which (events ++ event.Tick which ∷ []) ≡ 0 ∷ 0 ∷ []

-- each end does so: it takes its peer's last frame four ticks after it was sent
pub record BothShowLongest : Type 0 where
  pub slave : ShowsLongest side.Slave (1 ∷ 0 ∷ []) (until_data ++ replicate 4 ts ++ ds 1 ∷ replicate 4 ts)
  pub master : ShowsLongest side.Master (128 ∷ 0 ∷ []) (until_data ++ ds 1 ∷ replicate 4 tm ++ dm 1 ∷ replicate 4 tm)
