-- Worked traces: whether they conform, what is read off them, and the first difference. Their reports are tested.
use Rattle.std.specs.Prelude.{◌≡◌, ℕ, refl, List, [], ◌∷◌, ◌++◌, ◌+◌, ◌-◌, true, codes, drop, take, length, reverse, Option, Some, None, false, Bool, ◌&&◌, is_some}
use Rattle.std.specs.List.{list_all}
use Rattle.hex.specs.Hex.{decode_of}
use Rattle.fsoe_base.specs.declared.command.End.TheVariants as side
use Rattle.fsoe_base.specs.declared.lengths.Lengths.{Lengths}
use Rattle.param_load.specs.declared.app_rule.AppRule.TheVariants as app_rule
use Rattle.black_channel.specs.Altered.{altered}
use Rattle.end_model.specs.WorkedRuns.{two_and_two, master_values, slave_values, if_bytes}
use Rattle.exchange_model.specs.Schedules.{hs, pm, rounds, tm}
use Rattle.exchange_model.specs.World.{world}
use Rattle.exchange_model.specs.WorkedRuns.{one_and_one, bytewise_master, bytewise_slave, long_and_short}
use Rattle.trace_diag.specs.Conforms.{Conforms, has_length, sent_in}
use Rattle.trace_diag.specs.Judged.{first_difference}
use Rattle.trace_diag.specs.declared.difference.Difference.{Difference}
use Rattle.trace_diag.specs.Settings.{settings_told}
use Rattle.trace_diag.specs.Table.{field_of}
use Rattle.trace_diag.specs.Trace.{Noted}
use Rattle.trace_diag.specs.declared.field.Field.{Field}
use Rattle.trace_diag.specs.declared.field.Field.TheVariants as field
use Rattle.trace_diag.specs.declared.verdict.ReadOff.{ReadOff}

-- a frame of the master, in hexadecimal
abbrev pub m : List ℕ → Noted
m text = record { from = side.Master; frame = if_bytes (decode_of text) }

-- a frame of the slave
abbrev pub s : List ℕ → Noted
s text = record { from = side.Slave; frame = if_bytes (decode_of text) }

-- a handshake and the first data of both ends, in order
abbrev pub first_data : List Noted
first_data =
    m (codes "2a0000c42d0000")
    ∷ s (codes "2a0000c42d0000")
    ∷ m (codes "4e0100123e0000")
    ∷ s (codes "4e020090470000")
    ∷ m (codes "640100642a0100")
    ∷ s (codes "64010093d60100")
    ∷ m (codes "640200625f0100")
    ∷ s (codes "64020047080100")
    ∷ m (codes "520200ee740100")
    ∷ s (codes "52020030580100")
    ∷ m (codes "52640058da0100")
    ∷ s (codes "526400ae680100")
    ∷ m (codes "52000071990100")
    ∷ s (codes "520000772d0100")
    ∷ m (codes "360100fc430100")
    ∷ s (codes "36800078c90100")
    ∷ m (codes "360100cfa90100")
    ∷ []

-- the trace of these frames, which are in order
abbrev pub trace : List Noted → List Noted
trace frames = reverse frames

-- the first n of them, then this frame, then those after it
abbrev pub with_frame : ℕ → Noted → List Noted
with_frame n x = take n first_data ++ x ∷ drop (n + 1) first_data

abbrev pub told : Option ℕ → Option ℕ → Option ℕ → Option ℕ → ReadOff
told conn address watchdog app = record { conn = conn; address = address; watchdog = watchdog; app = app }

-- the frame of this number and this field is the first difference
abbrev pub at : ℕ → Field → Option Difference
at number which = Some (record { number = number; field = which })

-- what ends send in lock step: byte by byte with three application parameters, in the longest frames and short ones
-- with the slave held, and over a byte list that two frames of four bytes carry
abbrev pub bytewise : List Noted
bytewise = sent_in (world bytewise_master bytewise_slave (tm ∷ rounds 18))

abbrev pub long_frames : List Noted
long_frames =
    sent_in (world (record master_values { lengths = long_and_short }) (record slave_values { lengths = long_and_short }) (hs true ∷ tm ∷ rounds 9))

abbrev pub four_and_six : Lengths
four_and_six = record { master = 4; slave = 6; valid_master = refl; valid_slave = refl }

abbrev pub padded_frames : List Noted
padded_frames =
    sent_in
    (world (record master_values { lengths = four_and_six; app = 0x0A ∷ [] })
    (record slave_values { lengths = four_and_six; rule = app_rule.Any 1; acceptable = refl })
    (pm (codes "01020304") ∷ tm ∷ rounds 6))

-- the row that applies to a frame after the first n of a handshake with data
abbrev pub field_after : ℕ → Noted → Option Field
field_after n x = field_of two_and_two (trace (take n first_data)) x

-- whether each byte of the frame after these, altered by this mask, makes a row of the table apply; the frames after
-- them come next
abbrev pub tells_each : ℕ → List Noted → List Noted → Bool
tells_each mask before [] = true
tells_each mask before (x ∷ frames) =
    list_all (λ p. is_some (field_of two_and_two before (record x { frame = altered p mask x.frame }))) (0 ∷ 1 ∷ 2 ∷ 3 ∷ 4 ∷ 5 ∷ 6 ∷ [])
    && tells_each mask (x ∷ before) frames

-- the row that applies to this frame of the trace of four and six bytes, or of one and one, after the first n of them
abbrev pub field_in : Lengths → List Noted → ℕ → Noted → Option Field
field_in lengths t n x = field_of lengths (drop (length t - n) t) x

-- frames up to the low byte of a watchdog, which is 0, and the answer to it
abbrev pub low_zero : List Noted
low_zero = s (codes "520052290100") ∷ m (codes "520085fc0100") ∷ drop 19 bytewise

-- a handshake with data, and one frame more
abbrev pub longer_data : List Noted
longer_data = trace (first_data ++ s (codes "3680002d670100") ∷ [])

-- whether worked traces conform, what is read off them, and the first difference
pub record WorkedTraces : Type 0 where
  -- the trace conforms, and all settings are told
  pub conforms : Conforms two_and_two (trace first_data)
  pub settings : settings_told two_and_two (trace first_data) ≡ told (Some 1) (Some 2) (Some 100) (Some 0)
  -- the first frames of a trace conform too, and tell what has come: none of them, and six
  pub none_conform : Conforms two_and_two []
  pub none_told : settings_told two_and_two [] ≡ told None None None None
  pub six_conform : Conforms two_and_two (trace (take 6 first_data))
  pub six_told : settings_told two_and_two (trace (take 6 first_data)) ≡ told (Some 1) None None None
  -- no row of the table applies, so that the first conforms and the others don't; a data byte altered in the slave's
  -- data, whose CRC tells it, and in an answer that repeats another piece; a frame left out
  pub altered :
      (first_difference two_and_two (trace first_data) ≡ None)
      × (first_difference two_and_two (trace (with_frame 15 (s (codes "36810078c90100")))) ≡ at 16 (field.Crc 0))
      × (first_difference two_and_two (trace (with_frame 7 (s (codes "64030047080100")))) ≡ at 8 (field.Data 0))
      × (first_difference two_and_two (trace (take 1 first_data ++ drop 2 first_data)) ≡ at 2 field.Turn)
  -- of what ends send in lock step all frames are there, no row of the table applies, and all settings are told
  pub lock_step :
      (length bytewise ≡ 37)
      × (first_difference one_and_one bytewise ≡ None)
      × (settings_told one_and_one bytewise ≡ told (Some 1) (Some 2) (Some 100) (Some 3))
      × (length long_frames ≡ 19)
      × (first_difference long_and_short long_frames ≡ None)
      × (settings_told long_and_short long_frames ≡ told (Some 1) (Some 2) (Some 100) (Some 0))
      × (length padded_frames ≡ 13)
      × (first_difference four_and_six padded_frames ≡ None)
      × (settings_told four_and_six padded_frames ≡ told (Some 1) (Some 2) (Some 100) (Some 1))
  -- each row of the table, the last in a frame that is right but for its CRC: the other end's frame; a byte too few; a
  -- second Reset frame, a Session frame at first, and a Parameter frame in Data; a connection id in Reset and in
  -- Session, none in the first Connection frame, and another in the second; a code in a Reset frame, another connection
  -- id as payload, another length of the communication parameters, another byte than the master's, a watchdog 0, 513
  -- application parameters, and data in FailSafeData
  pub rows :
      (field_after 0 (s (codes "2a0000c42d0000")) ≡ Some field.Turn)
      × (field_after 2 (m (codes "4e0100123e00")) ≡ Some field.Length)
      × (field_after 2 (m (codes "2a0000c42d0000")) ≡ Some field.Command)
      × (field_after 0 (m (codes "4e0100123e0000")) ≡ Some field.Command)
      × (field_after 14 (m (codes "520100fc430100")) ≡ Some field.Command)
      × (field_after 0 (m (codes "2a0000c42d0100")) ≡ Some field.Conn)
      × (field_after 2 (m (codes "4e0100123e0100")) ≡ Some field.Conn)
      × (field_after 4 (m (codes "640100642a0000")) ≡ Some field.Conn)
      × (field_after 5 (s (codes "64010093d60200")) ≡ Some field.Conn)
      × (field_after 0 (m (codes "2a0100c42d0000")) ≡ Some (field.Data 0))
      × (field_after 4 (m (codes "640101642a0100")) ≡ Some (field.Data 1))
      × (field_after 8 (m (codes "520201ee740100")) ≡ Some (field.Data 1))
      × (field_after 9 (s (codes "52030030580100")) ≡ Some (field.Data 0))
      × (field_after 10 (m (codes "52000058da0100")) ≡ Some (field.Data 1))
      × (field_after 12 (m (codes "52010271990100")) ≡ Some (field.Data 1))
      × (field_after 14 (m (codes "080100fc430100")) ≡ Some (field.Data 0))
      × (field_after 2 (m (codes "4e0100133e0000")) ≡ Some (field.Crc 0))
  -- a data frame of three bytes hasn't the length of its end's frames, and no trace with it conforms
  pub short_frame : field_after 14 (m (codes "360100")) ≡ Some field.Length
  pub other_lengths : list_all (has_length two_and_two) (trace (take 14 first_data ++ m (codes "360100") ∷ [])) ≡ false
  -- each byte of a handshake with data makes a row apply, by its lowest and by its highest bit
  pub lowest_bit : tells_each 1 [] first_data ≡ true
  pub highest_bit : tells_each 128 [] first_data ≡ true
  -- in frames of several groups: the CRC of the second, and its data; a byte past the payload, and past the piece; the
  -- high byte of the number of application parameters and what is padding then
  pub later_groups :
      (field_in four_and_six padded_frames 10 (m (codes "360102c89a03043e6a0100")) ≡ None)
      × (field_in four_and_six padded_frames 10 (m (codes "360102c89a03043f6a0100")) ≡ Some (field.Crc 1))
      × (field_in four_and_six padded_frames 10 (m (codes "360102c89a02043e6a0100")) ≡ Some (field.Crc 1))
      × (field_in four_and_six padded_frames 2 (m (codes "4e0100123e0100434e0000")) ≡ Some (field.Data 2))
      × (field_in four_and_six padded_frames 3 (s (codes "4e020090470000692500014c330000")) ≡ Some (field.Data 5))
      × (field_in four_and_six padded_frames 8 (m (codes "52010021220a01fd550100")) ≡ Some (field.Data 3))
      × (field_in four_and_six padded_frames 8 (m (codes "52000021220a00fd550100")) ≡ Some (field.Data 2))
  -- a watchdog is cut between two frames: its low byte may be 0, and then its high byte may not
  pub cut_words :
      (field_in one_and_one bytewise 18 (m (codes "520085fc0100")) ≡ None)
      × (field_of one_and_one (m (codes "520085fc0100") ∷ drop 19 bytewise) (s (codes "520052290100")) ≡ None)
      × (field_of one_and_one low_zero (m (codes "5200299e0100")) ≡ Some (field.Data 0))
      × (field_of one_and_one low_zero (m (codes "520161e80100")) ≡ None)
  -- a number that is stepped once more, since else the frame would have the CRC of the one before it
  pub stepped_number :
      (field_of two_and_two longer_data (m (codes "365026d4c80100")) ≡ None)
      × (field_of two_and_two longer_data (m (codes "365026cfa90100")) ≡ Some (field.Crc 0))
