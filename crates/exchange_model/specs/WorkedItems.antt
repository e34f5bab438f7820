-- The items of worked runs: what they answer, what they carry, and which is awaited. Lists are newest first.
use Rattle.std.specs.Prelude.{◌≡◌, ℕ, List, [], ◌∷◌, ◌++◌, take, map, replicate, true, false, Option, Some, None, is_some, option_map}
use Rattle.fsoe_base.specs.declared.command.End.{End}
use Rattle.fsoe_base.specs.declared.command.End.TheVariants as side
use Rattle.param_load.specs.declared.entry.Entry.{Entry}
use Rattle.schedule_file.specs.declared.event.Event.{Event}
use Rattle.end_model.specs.WorkedRuns.{slave_values}
use Rattle.exchange_model.specs.World.{world}
use Rattle.exchange_model.specs.Schedules.{master_values, dm, ds, tm, zs, ns, hs, rounds}
use Rattle.exchange_model.specs.Items.{Offered, FailSafe, Values, Unset, Item, items_of, newest, awaited, items}
use Rattle.exchange_model.specs.Fair.{numbers_taken}
use Rattle.exchange_model.specs.WorkedRuns.{first_data_run, answer_under_way_run, old_session_run, held_slave_run, profile_two_run}

-- the items of one end in a run
abbrev pub items_in : End → List Entry → List Item
items_in which w = items_of which (items w)

-- the load of an end's newest item
abbrev pub newest_offered : End → List Entry → Option (Option Offered)
newest_offered which w = option_map (λ i. i.offered) (newest (items_in which w))

-- the number of the item that an end awaits after a run
abbrev pub awaited_in : End → List Entry → Option ℕ
awaited_in which w = option_map (λ i. i.number) (awaited (items w) which)

-- a reset of the slave's own and another session id made it answer the master's Session frame a second time
abbrev pub answered_twice : List Event
answered_twice = tm ∷ rounds 1 ++ ds 1 ∷ zs ∷ ns 7 ∷ ds 1 ∷ []

-- the slave answered the master's first Reset frame
abbrev pub reset_answered_run : List Entry
reset_answered_run = world master_values slave_values (tm ∷ ds 1 ∷ [])

-- the items of worked runs: what they answer and carry, which is awaited, and which gave data
pub record WorkedItems : Type 0 where
  -- each frame of a handshake answers the one before it: the slave's n-th the master's n-th, and that the slave's one
  -- before
  pub numbers : map (λ i. i.number) (items_in side.Master first_data_run) ≡ 9 ∷ 8 ∷ 7 ∷ 6 ∷ 5 ∷ 4 ∷ 3 ∷ 2 ∷ 1 ∷ []
  pub answering :
      (map (λ i. i.answers) (items_in side.Master first_data_run)
      ≡ Some 8 ∷ Some 7 ∷ Some 6 ∷ Some 5 ∷ Some 4 ∷ Some 3 ∷ Some 2 ∷ Some 1 ∷ None ∷ [])
      × (map (λ i. i.answers) (items_in side.Slave first_data_run)
      ≡ Some 8 ∷ Some 7 ∷ Some 6 ∷ Some 5 ∷ Some 4 ∷ Some 3 ∷ Some 2 ∷ Some 1 ∷ [])
  -- a frame that was under way is answered as the awaited item, also where its sender sent a Reset frame since; a
  -- Session frame is answered where it is the peer's newest alone
  pub answering_late :
      (take 2 (map (λ i. i.answers) (items_in side.Master answer_under_way_run)) ≡ None ∷ Some 9 ∷ [])
      × (map (λ i. i.answers) (items_in side.Master (world master_values slave_values (answered_twice ++ dm 3 ∷ [])))
      ≡ None ∷ Some 1 ∷ None ∷ [])
  -- a load and terms are those of data frames alone; a load is what was put, fail-safe data at a held end, which may be
  -- held before its first put, and zeros where nothing was put
  pub carrying :
      (map (λ i. i.offered) (items_in side.Master first_data_run)
      ≡ Some (Values (1 ∷ 0 ∷ [])) ∷ Some (Values (1 ∷ 0 ∷ [])) ∷ replicate 7 None)
      × (map (λ i. is_some i.terms) (items_in side.Master first_data_run) ≡ true ∷ true ∷ replicate 7 false)
      × (map (λ i. i.offered) (items_in side.Slave first_data_run) ≡ Some (Values (128 ∷ 0 ∷ [])) ∷ replicate 7 None)
      × (newest_offered side.Slave held_slave_run ≡ Some (Some FailSafe))
      × (newest_offered side.Slave (world master_values slave_values (hs true ∷ tm ∷ rounds 8)) ≡ Some (Some FailSafe))
      × (newest_offered side.Slave profile_two_run ≡ Some (Some Unset))
  -- an end awaits the newest answer to its newest item, if one was sent already; after a reset of its own it awaits none
  -- until the peer answers that Reset frame, and never a Reset frame
  pub awaiting :
      (awaited_in side.Slave first_data_run ≡ Some 9)
      × (awaited_in side.Master first_data_run ≡ None)
      × (awaited_in side.Slave answer_under_way_run ≡ None)
      × (awaited_in side.Slave old_session_run ≡ None)
      × (map (λ i. i.answers) (items_in side.Slave reset_answered_run) ≡ Some 1 ∷ [])
      × (awaited_in side.Master reset_answered_run ≡ None)
      × (awaited_in side.Master (world master_values slave_values answered_twice) ≡ Some 4)
  -- the items that each end awaited where it took data, fail-safe data too
  pub taking :
      (numbers_taken side.Master held_slave_run ≡ 9 ∷ 8 ∷ [])
      × (numbers_taken side.Slave held_slave_run ≡ 9 ∷ 8 ∷ [])
