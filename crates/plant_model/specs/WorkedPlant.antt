-- A worked plant of two connections: an emergency stop at the first drives a bit of the second. What its channel gave,
-- a part of what was pushed, was worked out beforehand; so were the report and the lines of a connection. Steps are
-- listed oldest first.
use Rattle.std.specs.Prelude.{◌≡◌, ℕ, List, [], ◌∷◌, ◌++◌, codes, decimal, drop, true}
use Rattle.std.specs.List.{flat_map}
use Rattle.std.proofs.lemmas.Bool.{ltb-true}
use Rattle.std.specs.Prelude.{refl}
use Rattle.hex.specs.Hex.{decode_of}
use Rattle.black_channel.specs.declared.channel.Parcel.{Parcel}
use Rattle.fsoe_base.specs.declared.command.End.{End}
use Rattle.fsoe_base.specs.declared.command.End.TheVariants as side
use Rattle.fsoe_io.specs.declared.status.Status.TheVariants as status
use Rattle.plant_conf.specs.declared.conf.LinkConf.{LinkConf}
use Rattle.end_model.specs.WorkedRuns.{if_bytes, master_values, slave_values}
use Rattle.exchange_model.specs.Schedules.{pair_lines}
use Rattle.plant_model.specs.declared.event.PlantEvent.TheVariants as plant_event
use Rattle.plant_model.specs.declared.journal.JournalStep.{JournalStep}
use Rattle.plant_model.specs.declared.journal.JournalStep.TheVariants as journal_step
use Rattle.plant_model.specs.Pair.{pair}
use Rattle.plant_model.specs.PlantReport.{report_text, report_end}
use Rattle.schedule_file.specs.Input.{AtEnd}

-- connection id 1 and slave address 11, with a watchdog of five ticks
abbrev pub stop_link : LinkConf
stop_link = record {
  master = record master_values { address = 11; watchdog = 5; some_watchdog = ltb-true 0 5 refl };
  slave = record slave_values { address = 11; hand = 5; most = 65535; some_hand = ltb-true 0 5 refl; some_most = ltb-true 0 65535 refl };
}

-- connection id 2 and slave address 12, the same
abbrev pub drive_link : LinkConf
drive_link = record {
  master = record stop_link.master { conn = 2; address = 12; some_conn = ltb-true 0 2 refl };
  slave = record stop_link.slave { address = 12 };
}

-- both connections
abbrev pub both_links : List LinkConf
both_links = stop_link ∷ drive_link ∷ []

-- a tick of the script
abbrev pub tick : JournalStep
tick = journal_step.Script plant_event.Tick

-- a load is put at the slave of a connection, in hexadecimal
abbrev pub put : ℕ → List ℕ → JournalStep
put link text = journal_step.Script (plant_event.Put link (if_bytes (decode_of text)))

-- the master of a connection has another offer
abbrev pub offer : ℕ → List ℕ → JournalStep
offer link text = journal_step.Offer link (if_bytes (decode_of text))

-- a parcel for an end of a connection, in hexadecimal
abbrev pub parcel_for : End → ℕ → List ℕ → Parcel
parcel_for end link text = record { to = record { link = link; end = end }; frame = if_bytes (decode_of text) }

-- one for its master is pulled, or one for its slave
abbrev pub to_master : ℕ → List ℕ → JournalStep
to_master link text = journal_step.Pulled (parcel_for side.Master link text)

abbrev pub to_slave : ℕ → List ℕ → JournalStep
to_slave link text = journal_step.Pulled (parcel_for side.Slave link text)

-- frames for both slaves and then for both masters are pulled
abbrev pub round : List ℕ → List ℕ → List ℕ → List ℕ → List JournalStep
round one two three four = to_slave 1 one ∷ to_slave 2 two ∷ to_master 1 three ∷ to_master 2 four ∷ []

-- a tick in which frames come at the second connection alone
abbrev pub drive_tick : List ℕ → List ℕ → List JournalStep
drive_tick one two = tick ∷ to_slave 2 one ∷ to_master 2 two ∷ []

-- seven ticks. In the first come two handshakes, and the first data of both. Then the emergency stop is released and
-- acknowledged, so that the drive goes on; and it is pressed in the tick in which its connection is cut
abbrev pub seven_ticks : List JournalStep
seven_ticks =
    tick
    ∷ round (codes "2a0000c42d0000") (codes "2a0000c42d0000") (codes "2a0000c42d0000") (codes "2a0000c42d0000")
    ++ round (codes "4e0100123e0000") (codes "4e0100123e0000") (codes "4e020090470000") (codes "4e020090470000")
    ++ round (codes "640100642a0100") (codes "6402003c260200") (codes "64010093d60100") (codes "640200d8ac0200")
    ++ round (codes "640b0025f70100") (codes "640c005e090200") (codes "640b00a14b0100") (codes "640c0093a90200")
    ++ round (codes "52020093770100") (codes "52020066ad0200") (codes "52020077a60100") (codes "52020084f70200")
    ++ round (codes "5205004bd70100") (codes "52050035b70200") (codes "52050071570100") (codes "520500cb390200")
    ++ round (codes "52000036ac0100") (codes "520000997f0200") (codes "52000077330100") (codes "520000ef0c0200")
    ++ round (codes "3600003c890100") (codes "36000009640200") (codes "36000045a30100") (codes "3600002f6b0200")
    ++ put 1 (codes "0300")
    ∷ tick
    ∷ to_slave 1 (codes "36000074b50100")
    ∷ to_slave 2 (codes "36000082710200")
    ∷ offer 2 (codes "0100")
    ∷ to_master 1 (codes "36030043440100")
    ∷ to_master 2 (codes "360000f89d0200")
    ∷ round (codes "360000c9bc0100") (codes "3601008bc20200") (codes "360300fcbf0100") (codes "36000028130200")
    ++ put 1 (codes "0000")
    ∷ journal_step.Script (plant_event.Cut 1 true)
    ∷ tick
    ∷ to_slave 1 (codes "360000e0bb0100")
    ∷ to_slave 2 (codes "360100a09c0200")
    ∷ to_master 2 (codes "3600004b2b0200")
    ∷ drive_tick (codes "36010036280200") (codes "360000f24c0200")
    ++ drive_tick (codes "36010006d90200") (codes "36000019460200")
    ++ drive_tick (codes "3601002d950200") (codes "3600008e170200")
    ++ tick
    ∷ offer 2 (codes "0000")
    ∷ to_slave 2 (codes "360100e6ec0200")
    ∷ to_master 2 (codes "360000ab480200")
    ∷ to_slave 2 (codes "36000087660200")
    ∷ []

-- the report over these steps, and how a run ends that writes it
unfoldable pub SevenTicks : Type 0
SevenTicks =
    (report_text both_links seven_ticks [] AtEnd
    ≡ codes "tick 1\n1 Data 0000 Data 0000\n2 Data 0000 Data 0000\n"
    ++ flat_map (λ k. codes "tick " ++ decimal k ++ codes "\n1 Data 0300 Data 0000\n2 Data 0000 Data 0100\n") (2 ∷ 3 ∷ 4 ∷ 5 ∷ 6 ∷ [])
    ++ codes "tick 7\n1 Reset 0000 Data 0000\n2 Data 0000 Data 0000\nticks 7\nother none\n")
    × (report_end both_links seven_ticks AtEnd ≡ record { status = status.Ok; place = 0 })

-- the lines of the first connection from its second tick on, tick by tick: the master has the input until its watchdog
-- expires
unfoldable pub StopLines : Type 0
StopLines =
    flat_map (λ line. line ++ codes "\n") (drop 18 (pair_lines (pair stop_link 1 seven_ticks)))
    ≡ codes "s quiet Data 0000\ns quiet Data 0000\nm quiet Data 0000\n"
    ++ codes "s took ProcessData Data 0000 > 36030043440100\nm took ProcessData Data 0300 > 360000c9bc0100\n"
    ++ codes "s took ProcessData Data 0000 > 360300fcbf0100\nm took ProcessData Data 0300 > 360000e0bb0100\n"
    ++ codes "s quiet Data 0000\ns quiet Data 0000\nm quiet Data 0300\ns took ProcessData Data 0000 > 360000cfc90100\n"
    ++ codes "s quiet Data 0000\nm quiet Data 0300\ns quiet Data 0000\nm quiet Data 0300\ns quiet Data 0000\nm quiet Data 0300\n"
    ++ codes "s quiet Data 0000\nm reset found 05 Reset 0000 > 2a050025ae0000\n"
