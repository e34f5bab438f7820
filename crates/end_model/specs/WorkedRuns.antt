-- Worked runs of one end: the events of a run, and each line that a report writes of them.
use Rattle.std.specs.Prelude.{◌≡◌, ℕ, refl, List, [], ◌∷◌, ◌++◌, codes, take, drop, map, replicate, reverse, Bool, true, Option, Some, None, Result, Ok, Err, bit_xor}
use Rattle.std.proofs.lemmas.Bool.{ltb-true}
use Rattle.hex.specs.Hex.{decode_of}
use Rattle.hex.specs.declared.error.FromHexError.{FromHexError}
use Rattle.fsoe_base.specs.declared.command.Code.{Code}
use Rattle.fsoe_base.specs.declared.command.Command.{Command}
use Rattle.fsoe_base.specs.declared.command.Command.TheVariants as command
use Rattle.fsoe_base.specs.declared.lengths.Lengths.{Lengths}
use Rattle.fsoe_base.specs.Command.{code}
use Rattle.fsoe_frame.specs.Parts.{frame_of}
use Rattle.param_load.specs.declared.app_rule.AppRule.TheVariants as app_rule
use Rattle.param_load.specs.declared.entry.Entry.{Entry}
use Rattle.param_load.specs.declared.entry.Move.{Move}
use Rattle.param_load.specs.declared.entry.Move.TheVariants as move
use Rattle.param_load.specs.declared.profile.Profile.TheVariants as profile
use Rattle.param_load.specs.declared.master_settings.MasterSettings.{MasterSettings}
use Rattle.param_load.specs.declared.slave_settings.SlaveSettings.{SlaveSettings}
use Rattle.entry_text.specs.EntryText.{entry_text}
use Rattle.fsoe_base.specs.declared.did.Dropped.TheVariants as why
use Rattle.end_model.specs.Setup.{Setup, OfMaster, OfSlave, receives}
use Rattle.end_model.specs.Verdict.{Verdict, Valid, Drop, Refused, contents, verdict}
use Rattle.end_model.specs.Step.{run}
use Rattle.end_model.specs.Runs.{entries}

-- two bytes of safe data in each direction
abbrev pub two_and_two : Lengths
two_and_two = record { master = 2; slave = 2; valid_master = refl; valid_slave = refl }

-- connection 1, slave address 2, watchdog 100, session id 1
abbrev pub master_values : MasterSettings
master_values = record {
  lengths = two_and_two;
  conn = 1;
  address = 2;
  watchdog = 100;
  app = [];
  nonce = 1;
  profile = profile.One;
  some_conn = ltb-true 0 1 refl;
  some_watchdog = ltb-true 0 100 refl;
  allowed = refl;
}

-- a master with these values
abbrev pub a_master : Setup
a_master = OfMaster master_values

-- slave address 2, at most 200 ticks without a frame in a handshake, watchdogs up to 1000, no application parameters,
-- session id 2
abbrev pub slave_values : SlaveSettings
slave_values = record {
  lengths = two_and_two;
  address = 2;
  hand = 200;
  most = 1000;
  rule = app_rule.Any 0;
  nonce = 2;
  profile = profile.One;
  some_hand = ltb-true 0 200 refl;
  some_most = ltb-true 0 1000 refl;
  acceptable = refl;
  allowed = refl;
}

-- a slave with these values
abbrev pub a_slave : Setup
a_slave = OfSlave slave_values

-- the bytes of a hexadecimal text, none where it has a fault
abbrev pub if_bytes : Result (List ℕ) FromHexError → List ℕ
if_bytes (Ok bytes) = bytes
if_bytes (Err fault) = []

-- a frame comes, in hexadecimal
abbrev pub d : List ℕ → Move
d text = move.Deliver (if_bytes (decode_of text))

-- a load is put, in hexadecimal
abbrev pub p : List ℕ → Move
p text = move.Put (if_bytes (decode_of text))

-- one tick
abbrev pub t : Move
t = move.Tick

-- the end is held, or held no more
abbrev pub h : Bool → Move
h failsafe = move.Hold failsafe

-- a reset of the end's own
abbrev pub z : Move
z = move.Local

-- the line of an entry
abbrev pub line : Entry → List ℕ
line x = entry_text x.did x.state x.outputs x.sent

-- the lines of a run
abbrev pub report_lines : Setup → List Move → List (List ℕ)
report_lines s moves = reverse (map line (entries s (run s moves)))

-- the verdicts on frames that come after these moves, in hexadecimal
abbrev pub verdicts : Setup → List Move → List (List ℕ) → List Verdict
verdicts s moves texts = map (λ text. verdict s (run s moves) (if_bytes (decode_of text))) texts

-- a new master sends Reset at its first tick
unfoldable pub FirstTick : Type 0
FirstTick =
    report_lines a_master (t ∷ [])
    ≡ codes "again Reset 0000 > 2a0000c42d0000"
    ∷ []

-- a put at a slave, and the frames of a master up to its first data
abbrev pub to_slave : List Move
to_slave =
    p (codes "8000")
    ∷ d (codes "2a0000c42d0000")
    ∷ d (codes "4e0100123e0000")
    ∷ d (codes "640100642a0100")
    ∷ d (codes "640200625f0100")
    ∷ d (codes "520200ee740100")
    ∷ d (codes "52640058da0100")
    ∷ d (codes "52000071990100")
    ∷ d (codes "360100fc430100")
    ∷ []

-- the lines of these frames
abbrev pub handshake_lines : List (List ℕ)
handshake_lines =
    codes "took Reset Reset 0000 > 2a0000c42d0000"
    ∷ codes "took Session Session 0000 > 4e020090470000"
    ∷ codes "took Connection Connection 0000 > 64010093d60100"
    ∷ codes "took Connection Connection 0000 > 64020047080100"
    ∷ codes "took Parameter Parameter 0000 > 52020030580100"
    ∷ codes "took Parameter Parameter 0000 > 526400ae680100"
    ∷ codes "took Parameter Parameter 0000 > 520000772d0100"
    ∷ codes "took ProcessData Data 0100 > 36800078c90100"
    ∷ []

-- a slave takes a whole handshake and the first data
unfoldable pub SlaveHandshake : Type 0
SlaveHandshake =
    report_lines a_slave to_slave
    ≡ codes "quiet Reset 0000" ∷ handshake_lines

-- after 99 ticks a slave shows the data still, and in the hundredth it expires
unfoldable pub SlaveExpires : Type 0
SlaveExpires =
    drop 107 (report_lines a_slave (to_slave ++ replicate 100 t))
    ≡ codes "quiet Data 0100"
    ∷ codes "reset found 05 Reset 0000 > 2a050025ae0000"
    ∷ []

-- the watchdog that came with the parameters rules from the frame on that makes them whole, in state Parameter still
unfoldable pub SlaveExpiresInParameter : Type 0
SlaveExpiresInParameter =
    drop 106 (report_lines a_slave (take 8 to_slave ++ replicate 100 t))
    ≡ codes "quiet Parameter 0000"
    ∷ codes "reset found 05 Reset 0000 > 2a050025ae0000"
    ∷ []

-- until then a slave's limit is its own
unfoldable pub SlaveExpiresInSession : Type 0
SlaveExpiresInSession =
    drop 2 (report_lines (OfSlave (record slave_values { hand = 2; some_hand = ltb-true 0 2 refl })) (take 3 to_slave ++ t ∷ t ∷ []))
    ≡ codes "took Session Session 0000 > 4e020090470000"
    ∷ codes "quiet Session 0000"
    ∷ codes "reset found 05 Reset 0000 > 2a050025ae0000"
    ∷ []

-- a repeat is dropped, then a held slave answers with fail-safe data
unfoldable pub SlaveGoesOn : Type 0
SlaveGoesOn =
    drop 9 (report_lines a_slave (to_slave ++ d (codes "360100fc430100") ∷ h true ∷ d (codes "360100cfa90100") ∷ []))
    ≡ codes "drop Repeat Data 0100"
    ∷ codes "quiet Data 0100"
    ∷ codes "took ProcessData Data 0100 > 080000f65b0100"
    ∷ []

-- frames of which each fails several tests, all with wrong CRCs: a frame too short with an unknown command; an unknown
-- command with a wrong connection id; a Reset frame with a connection id, and one with a byte after its code; a command
-- that isn't allowed in Data with a wrong connection id; data with a wrong connection id, and fail-safe data that
-- aren't zeros
abbrev pub faulty : List (List ℕ)
faulty =
    codes "ff0000000000"
    ∷ codes "ff000000000200"
    ∷ codes "2a000100000200"
    ∷ codes "2a000100000000"
    ∷ codes "64000000000200"
    ∷ codes "36000000000200"
    ∷ codes "08010000000100"
    ∷ []

-- the first test that each of them fails: the length, the command, the parts of a Reset frame, whether it is allowed,
-- the connection id, the CRCs
abbrev pub first_faults : List Verdict
first_faults = Drop why.Length ∷ Refused (code 0x02) ∷ Refused (code 0x03) ∷ Refused (code 0x04) ∷ Refused (code 0x01) ∷ Refused (code 0x03) ∷ Refused (code 0x04) ∷ []

-- at a slave in Data the first test that a frame fails decides
unfoldable pub SlaveTestsInOrder : Type 0
SlaveTestsInOrder = verdicts a_slave to_slave faulty ≡ first_faults

-- a slave in state Reset refuses a Session frame with a connection id, and in Session a first Connection frame with the
-- connection id 0, before it looks at their CRCs, which are wrong
unfoldable pub SlaveTestsConnection : Type 0
SlaveTestsConnection =
    verdicts a_slave [] (codes "4e010000000100" ∷ []) ++ verdicts a_slave (take 3 to_slave) (codes "64000000000000" ∷ codes "64000000000900" ∷ [])
    ≡ Refused (code 0x03) ∷ Refused (code 0x03) ∷ Refused (code 0x04) ∷ []

-- an older frame is no repeat: its CRCs are wrong
unfoldable pub SlaveRefusesOldFrame : Type 0
SlaveRefusesOldFrame =
    drop 9 (report_lines a_slave (to_slave ++ d (codes "360100cfa90100") ∷ d (codes "360100fc430100") ∷ []))
    ≡ codes "took ProcessData Data 0100 > 3680002d670100"
    ∷ codes "reset found 04 Reset 0000 > 2a0400a6340000"
    ∷ []

-- after a reset of its own a slave takes an old Session frame, and no data
unfoldable pub SlaveResetItself : Type 0
SlaveResetItself =
    drop 9 (report_lines a_slave (to_slave ++ z ∷ d (codes "4e0100123e0000") ∷ d (codes "360100cfa90100") ∷ []))
    ≡ codes "reset own Reset 0000 > 2a0000c42d0000"
    ∷ codes "took Session Session 0000 > 4e020090470000"
    ∷ codes "reset found 01 Reset 0000 > 2a010047b70000"
    ∷ []

-- a slave with another address ends the session when the address has come
unfoldable pub WrongAddress : Type 0
WrongAddress =
    drop 4 (report_lines (OfSlave (record slave_values { address = 3 })) (take 5 to_slave))
    ≡ codes "reset found 06 Reset 0000 > 2a060017380000"
    ∷ []

-- a slave that accepts only shorter watchdogs
unfoldable pub WrongWatchdog : Type 0
WrongWatchdog =
    drop 6 (report_lines (OfSlave (record slave_values { most = 50; some_most = ltb-true 0 50 refl })) (take 7 to_slave))
    ≡ codes "reset found 09 Reset 0000 > 2a090083850000"
    ∷ []

-- a slave that wants one application parameter
unfoldable pub WrongParameters : Type 0
WrongParameters =
    drop 7 (report_lines (OfSlave (record slave_values { rule = app_rule.Any 1; acceptable = refl })) (take 8 to_slave))
    ≡ codes "reset found 0a Reset 0000 > 2a0a00b1130000"
    ∷ []

-- a slave of profile Two with the word 7
abbrev pub a_slave_of_two : Setup
a_slave_of_two = OfSlave (record slave_values { profile = profile.Two 7; allowed = refl })

-- session ids of profile Two need two frames of two bytes
unfoldable pub LongSessionIds : Type 0
LongSessionIds =
    report_lines a_slave_of_two (d (codes "2a0000c42d0000") ∷ d (codes "4e0100123e0000") ∷ d (codes "4e000061230000") ∷ [])
    ≡ codes "took Reset Reset 0000 > 2a0000c42d0000"
    ∷ codes "took Session Session 0000 > 4e020090470000"
    ∷ codes "took Session Session 0000 > 4e000043f10000"
    ∷ []

-- a session id that is set between these frames counts from the next session on
unfoldable pub IdSetLater : Type 0
IdSetLater =
    report_lines a_slave_of_two (d (codes "2a0000c42d0000") ∷ d (codes "4e0100123e0000") ∷ move.Nonce 0x50000 ∷ d (codes "4e000061230000") ∷ [])
    ≡ codes "took Reset Reset 0000 > 2a0000c42d0000"
    ∷ codes "took Session Session 0000 > 4e020090470000"
    ∷ codes "quiet Session 0000"
    ∷ codes "took Session Session 0000 > 4e000043f10000"
    ∷ []

-- a session id that was set and a load that was put outlast a reset
unfoldable pub OutlastsReset : Type 0
OutlastsReset =
    report_lines (OfSlave (record slave_values { nonce = 7; allowed = refl })) (move.Nonce 2 ∷ p (codes "8000") ∷ z ∷ drop 1 to_slave)
    ≡ codes "quiet Reset 0000" ∷ codes "quiet Reset 0000" ∷ codes "reset own Reset 0000 > 2a0000c42d0000" ∷ handshake_lines

-- a master of profile One goes on to Connection too early: a slave of profile Two waits for a second piece of the
-- session id
unfoldable pub MasterOfOtherProfile : Type 0
MasterOfOtherProfile =
    drop 2 (report_lines a_slave_of_two (d (codes "2a0000c42d0000") ∷ d (codes "4e0100123e0000") ∷ d (codes "640100642a0100") ∷ []))
    ≡ codes "reset found 01 Reset 0000 > 2a010047b70000"
    ∷ []

-- a slave in state Reset counts no ticks
unfoldable pub QuietInReset : Type 0
QuietInReset =
    report_lines (OfSlave (record slave_values { hand = 2; some_hand = ltb-true 0 2 refl })) (t ∷ t ∷ t ∷ [])
    ≡ codes "quiet Reset 0000"
    ∷ codes "quiet Reset 0000"
    ∷ codes "quiet Reset 0000"
    ∷ []

-- not even one that reaches its limit
unfoldable pub QuietAtItsLimit : Type 0
QuietAtItsLimit =
    report_lines (OfSlave (record slave_values { hand = 1; some_hand = ltb-true 0 1 refl })) (t ∷ [])
    ≡ codes "quiet Reset 0000"
    ∷ []

-- a put at a master, its first tick, and the answers of a slave up to its first data
abbrev pub to_master : List Move
to_master =
    p (codes "0100")
    ∷ t
    ∷ d (codes "2a0000c42d0000")
    ∷ d (codes "4e020090470000")
    ∷ d (codes "64010093d60100")
    ∷ d (codes "64020047080100")
    ∷ d (codes "52020030580100")
    ∷ d (codes "526400ae680100")
    ∷ d (codes "520000772d0100")
    ∷ d (codes "36800078c90100")
    ∷ []

-- a master downloads its parameters and takes the first data
unfoldable pub MasterHandshake : Type 0
MasterHandshake =
    report_lines a_master to_master
    ≡ codes "quiet Reset 0000"
    ∷ codes "again Reset 0000 > 2a0000c42d0000"
    ∷ codes "took Reset Session 0000 > 4e0100123e0000"
    ∷ codes "took Session Connection 0000 > 640100642a0100"
    ∷ codes "took Connection Connection 0000 > 640200625f0100"
    ∷ codes "took Connection Parameter 0000 > 520200ee740100"
    ∷ codes "took Parameter Parameter 0000 > 52640058da0100"
    ∷ codes "took Parameter Parameter 0000 > 52000071990100"
    ∷ codes "took Parameter Data 0000 > 360100fc430100"
    ∷ codes "took ProcessData Data 8000 > 360100cfa90100"
    ∷ []

-- the first of these data frames would have the CRC_0 of the frame before it under the next number, so that its number
-- is stepped once more; the second goes on from there
unfoldable pub MasterStepsNumber : Type 0
MasterStepsNumber =
    drop 10 (report_lines a_master (to_master ++ p (codes "5026") ∷ d (codes "3680002d670100") ∷ d (codes "368000c9770100") ∷ []))
    ≡ codes "quiet Data 8000"
    ∷ codes "took ProcessData Data 8000 > 365026d4c80100"
    ∷ codes "took ProcessData Data 8000 > 36502603030100"
    ∷ []

-- what is wrong with the contents of a frame that comes after these moves, in hexadecimal; its CRCs aren't tested
abbrev pub contents_after : Setup → List Move → Command → List ℕ → Option Code
contents_after s moves c text = contents s (run s moves) c (frame_of (receives s) (if_bytes (decode_of text)))

-- four bytes of safe data in each direction
abbrev pub four_and_four : Lengths
four_and_four = record { master = 4; slave = 4; valid_master = refl; valid_slave = refl }

-- a master takes any session id with zeros after it, its own pieces of the connection and of the parameters alone, and
-- fail-safe data that are zeros
unfoldable pub MasterContents : Type 0
MasterContents =
    contents_after (OfMaster (record master_values { lengths = four_and_four })) (t ∷ d (codes "2a0000c42d0000b9140000") ∷ []) command.Session (codes "4e0700000000000000000000")
    ∷ contents_after (OfMaster (record master_values { lengths = four_and_four })) (t ∷ d (codes "2a0000c42d0000b9140000") ∷ []) command.Session (codes "4e0700000001000000000000")
    ∷ contents_after a_master (take 4 to_master) command.Connection (codes "64010000000100")
    ∷ contents_after a_master (take 4 to_master) command.Connection (codes "64010100000100")
    ∷ contents_after a_master (take 6 to_master) command.Parameter (codes "52020000000100")
    ∷ contents_after a_master (take 6 to_master) command.Parameter (codes "52030000000100")
    ∷ contents_after a_master to_master command.FailSafeData (codes "08000000000100")
    ∷ contents_after a_master to_master command.FailSafeData (codes "08000100000100")
    ∷ []
    ≡ None ∷ Some (code 0x07) ∷ None ∷ Some (code 0x07) ∷ None ∷ Some (code 0x07) ∷ None ∷ Some (code 0x07) ∷ []

-- at a master in Data the first test that a frame fails decides
unfoldable pub MasterTestsInOrder : Type 0
MasterTestsInOrder = verdicts a_master to_master faulty ≡ first_faults

-- a Reset frame of the slave ends the session
unfoldable pub MasterIsReset : Type 0
MasterIsReset =
    drop 10 (report_lines a_master (to_master ++ d (codes "3680002d670100") ∷ d (codes "2a0000c42d0000") ∷ []))
    ≡ codes "took ProcessData Data 8000 > 360100e95d0100"
    ∷ codes "reset peer 00 Reset 0000 > 2a0000c42d0000"
    ∷ []

-- a master with this session id, after the answer to its Reset frame; and a slave, after its first Session frame
abbrev pub first_answers : MasterSettings → List (List ℕ) → List Verdict
first_answers ms texts = verdicts (OfMaster ms) (t ∷ d (codes "2a0000c42d0000") ∷ []) texts

abbrev pub second_frames : SlaveSettings → List (List ℕ) → List Verdict
second_frames ss texts = verdicts (OfSlave ss) (d (codes "2a0000c42d0000") ∷ d (codes "4e0100123e0000") ∷ []) texts

-- an old answer is taken by a master that uses its session id again, and refused with a fresh id; and so is an old
-- Connection frame by a slave, and the second Session frame where a session id needs two
unfoldable pub OldFrames : Type 0
OldFrames =
    first_answers master_values (codes "4e020090470000" ∷ [])
    ++ first_answers (record master_values { nonce = 2; allowed = refl }) (codes "4e020090470000" ∷ [])
    ++ second_frames slave_values (codes "640100642a0100" ∷ [])
    ++ second_frames (record slave_values { nonce = 3; allowed = refl }) (codes "640100642a0100" ∷ [])
    ++ second_frames (record slave_values { profile = profile.Two 7; allowed = refl }) (codes "4e000061230000" ∷ [])
    ++ second_frames (record slave_values { nonce = 3; profile = profile.Two 7; allowed = refl }) (codes "4e000061230000" ∷ [])
    ≡ Valid command.Session (2 ∷ 0 ∷ [])
    ∷ Refused (code 0x04)
    ∷ Valid command.Connection (1 ∷ 0 ∷ [])
    ∷ Refused (code 0x04)
    ∷ Valid command.Session (0 ∷ 0 ∷ [])
    ∷ Refused (code 0x04)
    ∷ []

-- slaves with the session ids 56448 and 17669, which differ by 9985h, take the same Connection frame after the same
-- Session frame: at the second its number is stepped once more
unfoldable pub IdsByStep : Type 0
IdsByStep =
    (bit_xor 56448 17669 ≡ 0x9985)
    × (second_frames (record slave_values { nonce = 56448; allowed = refl }) (codes "64010076f60100" ∷ []) ≡ Valid command.Connection (1 ∷ 0 ∷ []) ∷ [])
    × (second_frames (record slave_values { nonce = 17669; allowed = refl }) (codes "64010076f60100" ∷ []) ≡ Valid command.Connection (1 ∷ 0 ∷ []) ∷ [])
