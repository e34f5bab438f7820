-- Worked schedules that are steady and honest, and settings that don't match and schedules that aren't honest, each by
-- one thing alone.
use Rattle.std.specs.Prelude.{ℕ, ◌≡◌, refl, List, [], ◌∷◌, ◌++◌, codes, take, replicate, true, false}
use Rattle.std.specs.List.{flat_map, list_all}
use Rattle.std.proofs.lemmas.Bool.{ltb-true}
use Rattle.fsoe_base.specs.declared.command.End.TheVariants as side
use Rattle.param_load.specs.declared.app_rule.AppRule.TheVariants as app_rule
use Rattle.param_load.specs.declared.entry.Entry.{Entry}
use Rattle.param_load.specs.declared.slave_settings.SlaveSettings.{SlaveSettings}
use Rattle.schedule_file.specs.declared.event.Event.{Event}
use Rattle.end_model.specs.WorkedRuns.{slave_values, two_and_two}
use Rattle.exchange_model.specs.World.{world}
use Rattle.exchange_model.specs.Schedules.{master_values, dm, ds, altered_ds, rs, tm, ts, pm, zs, rounds, sizes, until_data}
use Rattle.exchange_model.specs.Serving.{comes_new, deliveries_to, in_data, number_to}
use Rattle.exchange_model.specs.WorkedRuns.{bytewise_master, long_and_short, master_of_two, short_watchdog}
use Rattle.exchange_model.specs.Honest.{Match, exchanges, keeps_time, IsSteady, IsHonest, is_plain, in_turn, slave_first, ticks_first}

-- a slave that is to get a frame before its first tick in a handshake
abbrev pub hasty_slave : SlaveSettings
hasty_slave = record slave_values { hand = 1; some_hand = ltb-true 0 1 refl }

-- the entries of the first n events of a whole handshake: two puts, the master's first tick, and exchanges
abbrev pub first_of_all : ℕ → List Entry
first_of_all n = world master_values slave_values (take n until_data)

-- each frame comes twice, in so many rounds
abbrev pub doubled : ℕ → List Event
doubled n = flat_map (λ round. round) (replicate n (ds 1 ∷ ds 1 ∷ dm 1 ∷ dm 1 ∷ []))

-- the entries of the first n events of a whole handshake in which each frame comes twice
abbrev pub first_of_doubled : ℕ → List Entry
first_of_doubled n = world master_values slave_values (take n (tm ∷ doubled 8))

-- schedules that are steady and not honest, and one that isn't steady
pub record SteadyRuns : Type 0 where
  pub steady : IsSteady master_values slave_values (tm ∷ doubled 8)
  pub not_in_turn : in_turn side.Slave (tm ∷ doubled 8) ≡ false
  -- a slave that was never asked has sent nothing to the master
  pub not_asked : slave_first (tm ∷ dm 1 ∷ []) ≡ false
  -- the Reset frame alone is answered when it comes again
  pub answered : sizes (first_of_doubled 7) ≡ 7 ∷ 7 ∷ 7 ∷ 7 ∷ 0 ∷ 7 ∷ 0 ∷ []
  -- the seventh frame that comes to the master for the first time, at its thirteenth delivery, brings it into Data, and
  -- the eighth the slave
  pub reaches_data :
      (number_to comes_new side.Master (first_of_doubled 28) ≡ 7)
      × (deliveries_to side.Master (first_of_doubled 28) ≡ 13)
      × (in_data side.Master (first_of_doubled 27) ≡ false)
      × (in_data side.Master (first_of_doubled 28) ≡ true)
      × (number_to comes_new side.Slave (first_of_doubled 30) ≡ 8)
      × (in_data side.Slave (first_of_doubled 29) ≡ false)
      × (in_data side.Slave (first_of_doubled 30) ≡ true)

-- schedules that are honest
pub record HonestRuns : Type 0 where
  pub settings_match : Match master_values slave_values
  pub honest : IsHonest master_values slave_values until_data
  -- four ticks keep within a watchdog of five, at either end, and the fifth doesn't; in state Reset a slave may tick at
  -- any time
  pub ticks :
      (keeps_time short_watchdog slave_values (until_data ++ replicate 4 ts) [] ≡ true)
      × (keeps_time short_watchdog slave_values (until_data ++ replicate 5 ts) [] ≡ false)
      × (keeps_time short_watchdog slave_values (until_data ++ replicate 4 tm) [] ≡ true)
      × (keeps_time short_watchdog slave_values (until_data ++ replicate 5 tm) [] ≡ false)
      × (keeps_time master_values hasty_slave (ts ∷ tm ∷ rounds 1) [] ≡ true)
      × (keeps_time master_values hasty_slave (ts ∷ tm ∷ rounds 1 ++ ds 1 ∷ ts ∷ []) [] ≡ false)
  -- the exchanges before the first data
  pub exchanges_are :
      (exchanges master_values ≡ 7)
      × (exchanges bytewise_master ≡ 16)
      × (exchanges (record master_values { lengths = long_and_short }) ≡ 7)
      × (exchanges master_of_two ≡ 9)
  -- after seven exchanges, which are the first 17 events, the master is in Data, and the slave is with the next
  -- delivery
  pub reaches_data :
      (deliveries_to side.Master (first_of_all 17) ≡ 7)
      × (deliveries_to side.Slave (first_of_all 17) ≡ 7)
      × (in_data side.Master (first_of_all 16) ≡ false)
      × (in_data side.Master (first_of_all 17) ≡ true)
      × (in_data side.Slave (first_of_all 17) ≡ false)
      × (in_data side.Slave (first_of_all 18) ≡ true)

-- settings and schedules that aren't
pub record DishonestRuns : Type 0 where
  -- other lengths, another address, another profile, a watchdog that the slave doesn't accept, more parameters than its
  -- rule has, and as many that it doesn't allow
  pub mismatches :
      (Match (record master_values { lengths = record two_and_two { master = 4; valid_master = refl } }) slave_values → ⊥)
      × (Match (record master_values { lengths = record two_and_two { slave = 4; valid_slave = refl } }) slave_values → ⊥)
      × (Match (record master_values { address = 3 }) slave_values → ⊥)
      × (Match master_of_two slave_values → ⊥)
      × (Match (record master_values { watchdog = 1001; some_watchdog = ltb-true 0 1001 refl }) slave_values → ⊥)
      × (Match (record master_values { app = 0x30 ∷ [] }) slave_values → ⊥)
      × (Match (record master_values { app = 0x30 ∷ [] }) (record slave_values { rule = app_rule.Ranges (0x10 ∷ []) (0x20 ∷ []); acceptable = refl }) → ⊥)
  -- an older frame, an altered one, an invented one and a reset have no place in a steady schedule
  pub not_plain :
      (list_all is_plain (until_data ++ ds 2 ∷ []) ≡ false)
      × (list_all is_plain (until_data ++ altered_ds 1 1 1 ∷ []) ≡ false)
      × (list_all is_plain (until_data ++ rs (codes "2a0000c42d0000") ∷ []) ≡ false)
      × (list_all is_plain (until_data ++ zs ∷ []) ≡ false)
  -- nor has, in an honest one, a delivery to the master first, or two to one end
  pub out_of_turn :
      (in_turn side.Slave (tm ∷ dm 1 ∷ []) ≡ false)
      × (in_turn side.Slave (until_data ++ ds 1 ∷ ds 1 ∷ []) ≡ false)
  -- the master ticks, and before all deliveries
  pub ticked_late :
      (ticks_first [] ≡ false)
      × (ticks_first (pm (codes "0100") ∷ []) ≡ false)
      × (ticks_first (ds 1 ∷ tm ∷ []) ≡ false)
