-- Worked runs of both ends: the events of a schedule, the lines that a report writes of them, the number of the first
-- other entry, and whether the run is fair.
use Rattle.std.specs.Prelude.{◌≡◌, ℕ, ◌-◌, refl, List, [], ◌∷◌, ◌++◌, codes, length, take, drop, replicate, true, Option, Some, None}
use Rattle.std.proofs.lemmas.Bool.{ltb-true}
use Rattle.fsoe_base.specs.declared.command.End.TheVariants as side
use Rattle.fsoe_base.specs.declared.lengths.Lengths.{Lengths}
use Rattle.param_load.specs.declared.app_rule.AppRule.TheVariants as app_rule
use Rattle.param_load.specs.declared.profile.Profile.TheVariants as profile
use Rattle.param_load.specs.declared.entry.Entry.{Entry}
use Rattle.param_load.specs.declared.master_settings.MasterSettings.{MasterSettings}
use Rattle.param_load.specs.declared.slave_settings.SlaveSettings.{SlaveSettings}
use Rattle.schedule_file.specs.declared.event.Event.{Event}
use Rattle.end_model.specs.Setup.{OfSlave}
use Rattle.end_model.specs.Readiness.{age}
use Rattle.end_model.specs.WorkedRuns.{two_and_two, four_and_four, slave_values}
use Rattle.exchange_model.specs.World.{deeds, entry_at, world}
use Rattle.exchange_model.specs.Other.{first_other, before_other}
use Rattle.exchange_model.specs.Fair.{Fair}
use Rattle.exchange_model.specs.Schedules.{master_values, dm, ds, altered_ds, rs, tm, ts, pm, hs, ns, zs, rounds, until_data, pair_lines, short_lines, sizes, begin_with}

-- after the first so many lines of a run come these, and this is the number of its first other entry
abbrev pub Tells : ℕ → List Entry → Option ℕ → List (List ℕ) → Type 0
Tells skipped w other lines = (drop skipped (pair_lines w) ≡ lines) × (first_other w ≡ other)

-- a handshake and the first data of both ends, and then these events
abbrev pub after_data : List Event → List Entry
after_data events = world master_values slave_values (until_data ++ events)

-- a handshake and the first data of both ends, and nothing more
abbrev pub first_data_run : List Entry
first_data_run = after_data []

-- its lines
abbrev pub first_data_lines : List (List ℕ)
first_data_lines =
    codes "m quiet Reset 0000"
    ∷ codes "s quiet Reset 0000"
    ∷ codes "m again Reset 0000 > 2a0000c42d0000"
    ∷ codes "s took Reset Reset 0000 > 2a0000c42d0000"
    ∷ codes "m took Reset Session 0000 > 4e0100123e0000"
    ∷ codes "s took Session Session 0000 > 4e020090470000"
    ∷ codes "m took Session Connection 0000 > 640100642a0100"
    ∷ codes "s took Connection Connection 0000 > 64010093d60100"
    ∷ codes "m took Connection Connection 0000 > 640200625f0100"
    ∷ codes "s took Connection Connection 0000 > 64020047080100"
    ∷ codes "m took Connection Parameter 0000 > 520200ee740100"
    ∷ codes "s took Parameter Parameter 0000 > 52020030580100"
    ∷ codes "m took Parameter Parameter 0000 > 52640058da0100"
    ∷ codes "s took Parameter Parameter 0000 > 526400ae680100"
    ∷ codes "m took Parameter Parameter 0000 > 52000071990100"
    ∷ codes "s took Parameter Parameter 0000 > 520000772d0100"
    ∷ codes "m took Parameter Data 0000 > 360100fc430100"
    ∷ codes "s took ProcessData Data 0100 > 36800078c90100"
    ∷ codes "m took ProcessData Data 8000 > 360100cfa90100"
    ∷ []

-- frames of one byte carry the payloads byte by byte: sixteen exchanges before the first data
abbrev pub one_and_one : Lengths
one_and_one = record { master = 1; slave = 1; valid_master = refl; valid_slave = refl }

-- a master with three application parameters, over frames of one byte
abbrev pub bytewise_master : MasterSettings
bytewise_master = record master_values { lengths = one_and_one; app = 0x0A ∷ 0x0B ∷ 0x0C ∷ [] }

-- a slave that wants three, over frames of one byte
abbrev pub bytewise_slave : SlaveSettings
bytewise_slave = record slave_values { lengths = one_and_one; rule = app_rule.Any 3; acceptable = refl }

-- the longest frames of a master, and short ones of the slave
abbrev pub long_and_short : Lengths
long_and_short = record { master = 126; slave = 2; valid_master = refl; valid_slave = refl }

-- the first two entries where the master's frames are the longest
abbrev pub longest_frames_run : List Entry
longest_frames_run = world (record master_values { lengths = long_and_short }) (record slave_values { lengths = long_and_short }) (tm ∷ ds 1 ∷ [])

-- a master of profile Two with the word 7
abbrev pub master_of_two : MasterSettings
master_of_two = record master_values { profile = profile.Two 7; allowed = refl }

-- a slave of profile Two with a word
abbrev pub slave_of_two : ℕ → SlaveSettings
slave_of_two word = record slave_values { profile = profile.Two word; allowed = refl }

-- session ids of profile Two need two frames of two bytes, and its parameters four
abbrev pub profile_two_run : List Entry
profile_two_run = world master_of_two (slave_of_two 7) (tm ∷ rounds 9 ++ ds 1 ∷ [])

-- worked handshakes, over frames of several lengths and in both profiles
pub record Handshakes : Type 0 where
  pub first_data : Tells 0 first_data_run None first_data_lines
  -- byte by byte: the first line, and the first data after sixteen exchanges
  pub first_byte : take 1 (pair_lines (world bytewise_master bytewise_slave (tm ∷ []))) ≡ codes "m again Reset 00 > 2a0086f80000" ∷ []
  pub byte_by_byte :
      begin_with
      (codes "m took Parameter Data 00 > 36" ∷ codes "s took ProcessData Data 00 > 36" ∷ [])
      (drop 32 (pair_lines (world bytewise_master bytewise_slave (tm ∷ rounds 16 ++ ds 1 ∷ [])))) ≡ true
  -- a frame of 255 bytes, and 126 outputs in 252 digits
  pub longest_sizes : sizes longest_frames_run ≡ 255 ∷ 7 ∷ []
  pub longest_frame : begin_with (codes "m again Reset 0000 > 2a0000c42d0000b914" ∷ []) (take 1 (pair_lines longest_frames_run)) ≡ true
  pub longest_outputs : drop 1 (pair_lines longest_frames_run) ≡ (codes "s took Reset Reset " ++ replicate 252 0x30 ++ codes " > 2a0000c42d0000") ∷ []
  -- profile Two: the second frames of both session ids, the first data after nine exchanges, and no other entry
  pub profile_two_ids :
      take 2 (drop 4 (pair_lines profile_two_run))
      ≡ codes "m took Session Session 0000 > 4e000061230000"
      ∷ codes "s took Session Session 0000 > 4e000043f10000"
      ∷ []
  pub profile_two_data :
      begin_with
      (codes "m took Parameter Data 0000 > 36" ∷ codes "s took ProcessData Data 0000 > 36" ∷ [])
      (drop 18 (pair_lines profile_two_run)) ≡ true
  pub profile_two_other : first_other profile_two_run ≡ None
  -- the first of these data frames of the master would have the CRC_0 of the frame before it under the next number, so
  -- that its number is stepped once more; the slave takes it, and the master's next frame goes on from there
  pub number_stepped :
      drop 21 (pair_lines (after_data (ds 1 ∷ pm (codes "5026") ∷ dm 1 ∷ ds 1 ∷ dm 1 ∷ [])))
      ≡ codes "m took ProcessData Data 8000 > 365026d4c80100"
      ∷ codes "s took ProcessData Data 5026 > 368000c9770100"
      ∷ codes "m took ProcessData Data 8000 > 36502603030100"
      ∷ []
  -- a frame that wasn't sent has no entry, and the run stops there; 0 names no frame
  pub not_sent : entry_at master_values slave_values [] (dm 1) ≡ None
  pub stops_there : world master_values slave_values (dm 1 ∷ tm ∷ []) ≡ []
  pub too_old : entry_at master_values slave_values first_data_run (ds 10) ≡ None
  pub none_is_0 : entry_at master_values slave_values first_data_run (ds 0) ≡ None

-- the line of the n-th event of a handshake, the first of which is the master's tick, where the run comes so far
abbrev pub nth_line : ℕ → MasterSettings → SlaveSettings → List (List ℕ)
nth_line n ms ss = drop (n - 1) (pair_lines (world ms ss (take n (tm ∷ rounds 8))))

-- handshakes that a slave ends
pub record Refusals : Type 0 where
  -- it has another address, which has come
  pub other_address : nth_line 8 master_values (record slave_values { address = 3 }) ≡ codes "s reset found 06 Reset 0000 > 2a060017380000" ∷ []
  -- it accepts only shorter watchdogs
  pub long_watchdog : nth_line 12 master_values (record slave_values { most = 50; some_most = ltb-true 0 50 refl }) ≡ codes "s reset found 09 Reset 0000 > 2a090083850000" ∷ []
  -- it wants one application parameter, and the master has none
  pub no_parameters : nth_line 14 master_values (record slave_values { rule = app_rule.Any 1; acceptable = refl }) ≡ codes "s reset found 0a Reset 0000 > 2a0a00b1130000" ∷ []
  -- an application parameter is above the highest that it accepts
  pub high_parameter :
      nth_line 16 (record master_values { app = 0x30 ∷ [] }) (record slave_values { rule = app_rule.Ranges (0x10 ∷ []) (0x20 ∷ []); acceptable = refl })
      ≡ codes "s reset found 0b Reset 0000 > 2a0b0032890000" ∷ []
  -- a forged watchdog 0 whose CRC fits is refused, and the entry is other
  pub forged_watchdog :
      Tells 13 (world master_values slave_values (take 13 until_data ++ rs (codes "520000bda70100") ∷ [])) (Some 14)
      (codes "s reset found 09 Reset 0000 > 2a090083850000" ∷ [])
  -- it has another word of profile Two
  pub other_word : nth_line 16 master_of_two (slave_of_two 8) ≡ codes "s reset found 09 Reset 0000 > 2a090083850000" ∷ []
  -- a master of profile One goes on to Connection while it waits for the rest of a session id
  pub other_profile : nth_line 6 master_values (slave_of_two 7) ≡ codes "s reset found 01 Reset 0000 > 2a010047b70000" ∷ []
  -- where frames have room for a whole session id of either profile, the length of the communication parameters tells
  -- them apart
  pub other_profile_later :
      nth_line 8 (record master_values { lengths = four_and_four }) (record (slave_of_two 7) { lengths = four_and_four })
      ≡ codes "s reset found 08 Reset 00000000 > 2a0800001f0000b9140000" ∷ []

-- eight bytes of safe data in each direction
abbrev pub eight_and_eight : Lengths
eight_and_eight = record { master = 8; slave = 8; valid_master = refl; valid_slave = refl }

-- the master's data frame comes again with its last group altered
abbrev pub altered_group_run : List Entry
altered_group_run =
    world (record master_values { lengths = eight_and_eight }) (record slave_values { lengths = eight_and_eight })
    (pm (codes "0102030405060708") ∷ tm ∷ rounds 5 ++ altered_ds 1 13 1 ∷ [])

-- a watchdog of five ticks
abbrev pub short_watchdog : MasterSettings
short_watchdog = record master_values { watchdog = 5; some_watchdog = ltb-true 0 5 refl }

-- five ticks of the slave after its first data
abbrev pub five_ticks_run : List Entry
five_ticks_run = world short_watchdog slave_values (until_data ++ replicate 5 ts)

-- an answer is under way when its sender resets
abbrev pub answer_under_way_run : List Entry
answer_under_way_run = after_data (ds 1 ∷ zs ∷ dm 2 ∷ dm 1 ∷ [])

-- after its reset a slave gets an old Session frame, and then the master's last data
abbrev pub old_session_run : List Entry
old_session_run = after_data (zs ∷ ds 8 ∷ ds 1 ∷ [])

-- a forged data frame whose CRC fits
abbrev pub forged_data_run : List Entry
forged_data_run = after_data (rs (codes "36ff004ee90100") ∷ [])

-- the slave is held
abbrev pub held_slave_run : List Entry
held_slave_run = after_data (hs true ∷ ds 1 ∷ dm 1 ∷ [])

-- after its reset a slave gets old Session and Connection frames
abbrev pub old_connection_run : List Entry
old_connection_run = after_data (zs ∷ ds 8 ∷ ds 7 ∷ [])

-- a session in which the master sends `ff00`, and of which the slave took both data frames; then zeros are put at the
-- master, and the slave resets and tells the master; after further events the master's old frames come to the slave
abbrev pub old_frames_run : List Event → List Entry
old_frames_run events =
    world master_values slave_values
    (pm (codes "ff00") ∷ tm ∷ rounds 8 ++ ds 1 ∷ pm (codes "0000") ∷ zs ∷ dm 1 ∷ events
    ++ rs (codes "2a0000c42d0000")
    ∷ rs (codes "4e0100123e0000")
    ∷ rs (codes "640100642a0100")
    ∷ rs (codes "640200625f0100")
    ∷ rs (codes "520200ee740100")
    ∷ rs (codes "52640058da0100")
    ∷ rs (codes "52000071990100")
    ∷ rs (codes "36ff007d030100")
    ∷ rs (codes "36ff009a250100")
    ∷ [])

-- worked exchanges of data, with frames that come again, late, altered or forged, and with resets and ticks
pub record DataRuns : Type 0 where
  -- the frame that the slave took last is a repeat, although a newer one was sent; it doesn't restart the age
  pub repeated : drop 19 (pair_lines (after_data (ds 2 ∷ []))) ≡ codes "s drop Repeat Data 0100" ∷ []
  pub age_goes_on : age (OfSlave slave_values) (deeds side.Slave (after_data (ts ∷ ds 2 ∷ []))) ≡ 1
  -- one altered group ends the session, and no entry is other
  pub whole_groups : begin_with (codes "s took ProcessData Data 0102030405060708 > 36" ∷ []) (take 1 (drop 10 (pair_lines altered_group_run))) ≡ true
  pub altered_group : Tells 12 altered_group_run None (codes "s reset found 04 Reset 0000000000000000 > 2a0400a6340000b91400009c0200007f0f0000" ∷ [])
  -- an older frame isn't the one that was taken last: its CRCs are wrong
  pub old_data :
      Tells 19 (after_data (ds 1 ∷ dm 1 ∷ ds 3 ∷ [])) None
      (codes "s took ProcessData Data 0100 > 3680002d670100"
      ∷ codes "m took ProcessData Data 8000 > 360100e95d0100"
      ∷ codes "s reset found 04 Reset 0000 > 2a0400a6340000"
      ∷ [])
  -- the watchdog that the slave took expires in the fifth tick after its last frame
  pub watchdog_sent : take 13 (pair_lines five_ticks_run) ≡ take 12 first_data_lines ++ codes "m took Parameter Parameter 0000 > 5205005c240100" ∷ []
  pub goes_to_data :
      take 6 (drop 13 (short_lines five_ticks_run))
      ≡ codes "s took Parameter Parameter 0000"
      ∷ codes "m took Parameter Parameter 0000"
      ∷ codes "s took Parameter Parameter 0000"
      ∷ codes "m took Parameter Data 0000"
      ∷ codes "s took ProcessData Data 0100"
      ∷ codes "m took ProcessData Data 8000"
      ∷ []
  pub expires : drop 19 (pair_lines five_ticks_run) ≡ replicate 4 (codes "s quiet Data 0100") ++ codes "s reset found 05 Reset 0000 > 2a050025ae0000" ∷ []
  -- an answer that is under way stays awaited: the peer takes it, and then the Reset frame
  pub answer_under_way :
      Tells 19 answer_under_way_run None
      (codes "s took ProcessData Data 0100 > 3680002d670100"
      ∷ codes "s reset own Reset 0000 > 2a0000c42d0000"
      ∷ codes "m took ProcessData Data 8000 > 360100e95d0100"
      ∷ codes "m reset peer 00 Reset 0000 > 2a0000c42d0000"
      ∷ [])
  -- an old Session frame begins a session, in which no data are taken
  pub old_session :
      Tells 19 old_session_run None
      (codes "s reset own Reset 0000 > 2a0000c42d0000"
      ∷ codes "s took Session Session 0000 > 4e020090470000"
      ∷ codes "s reset found 01 Reset 0000 > 2a010047b70000"
      ∷ [])
  -- forged data are taken, and the entry is other
  pub forged_data : Tells 19 forged_data_run (Some 20) (codes "s took ProcessData Data ff00 > 3680009fec0100" ∷ [])
  -- a slave that is held answers with fail-safe data, and the master shows zeros
  pub held_slave :
      drop 19 (pair_lines held_slave_run)
      ≡ codes "s quiet Data 0100"
      ∷ codes "s took ProcessData Data 0100 > 080000f65b0100"
      ∷ codes "m took FailSafeData Data 0000 > 360100c0a40100"
      ∷ []
  -- with equal session ids an old Connection frame fits, and the entry is other
  pub old_connection : Tells 21 old_connection_run (Some 22) (codes "s took Connection Connection 0000 > 64010093d60100" ∷ [])
  -- old frames come to a slave whose session id is as it was: it takes the whole old session, and the first guarded
  -- frame of it is other
  pub equal_ids :
      Tells 22 (old_frames_run []) (Some 25)
      (codes "s took Reset Reset 0000 > 2a0000c42d0000"
      ∷ codes "s took Session Session 0000 > 4e020090470000"
      ∷ codes "s took Connection Connection 0000 > 64010093d60100"
      ∷ codes "s took Connection Connection 0000 > 64020047080100"
      ∷ codes "s took Parameter Parameter 0000 > 52020030580100"
      ∷ codes "s took Parameter Parameter 0000 > 526400ae680100"
      ∷ codes "s took Parameter Parameter 0000 > 520000772d0100"
      ∷ codes "s took ProcessData Data ff00 > 36000053240100"
      ∷ codes "s took ProcessData Data ff00 > 36000033cd0100"
      ∷ [])
  -- they come to a slave with a fresh session id: it refuses the first Connection frame, whose CRC covers that of
  -- another answer, and drops the rest
  pub fresh_id :
      Tells 22 (old_frames_run (ns 3 ∷ [])) None
      (codes "s quiet Reset 0000"
      ∷ codes "s took Reset Reset 0000 > 2a0000c42d0000"
      ∷ codes "s took Session Session 0000 > 4e030013dd0000"
      ∷ codes "s reset found 04 Reset 0000 > 2a0400a6340000"
      ∷ replicate 6 (codes "s drop InReset Reset 0000"))

-- worked runs that are fair, and two with an other entry, which are fair before it
pub record FairRuns : Type 0 where
  pub first_data : Fair two_and_two first_data_run
  pub answer_under_way : Fair two_and_two answer_under_way_run
  pub old_session : Fair two_and_two old_session_run
  pub held_slave : Fair two_and_two held_slave_run
  pub profile_two : Fair two_and_two profile_two_run
  pub before_forged : (length (before_other forged_data_run) ≡ 19) × Fair two_and_two (before_other forged_data_run)
  -- with forged data the run isn't fair
  pub with_forged : Fair two_and_two forged_data_run → ⊥
  pub before_old : (length (before_other old_connection_run) ≡ 21) × Fair two_and_two (before_other old_connection_run)
