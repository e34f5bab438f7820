-- When a trace conforms: its frames have their lengths, and it is what two ends send that are set to what is read off
-- it, over the schedule that is read off it. What ends do over a schedule is the world of both. The word is this
-- profile's own.
use Rattle.std.specs.Prelude.{◌≡◌, ◌==◌, Bool, IsTrue, length, List, [], ◌∷◌, if◌then◌else◌}
use Rattle.std.specs.List.{list_all}
use Rattle.fsoe_base.specs.declared.lengths.Lengths.{Lengths}
use Rattle.fsoe_base.specs.Lengths.{frame_len}
use Rattle.fsoe_base.specs.LengthsOf.{length_of}
use Rattle.param_load.specs.declared.entry.Entry.{Entry}
use Rattle.param_load.specs.declared.master_settings.MasterSettings.{MasterSettings}
use Rattle.param_load.specs.declared.slave_settings.SlaveSettings.{SlaveSettings}
use Rattle.end_model.specs.Deed.{is_empty}
use Rattle.exchange_model.specs.World.{world}
use Rattle.trace_diag.specs.Schedule.{read_schedule}
use Rattle.trace_diag.specs.Settings.{AreReadOff}
use Rattle.trace_diag.specs.Trace.{Noted}

-- the frames that these entries sent, with their ends
abbrev pub sent_in : List Entry → List Noted
sent_in [] = []
sent_in (x ∷ w) = if is_empty x.sent then sent_in w else record { from = x.end; frame = x.sent } ∷ sent_in w

-- whether a frame has the length of its end's frames. Without that a data frame of another length would conform: a put
-- of its data, however many, makes an end send it
abbrev pub has_length : Lengths → Noted → Bool
has_length lengths x = length x.frame == frame_len (length_of lengths x.from)

-- each frame has its length, there are such settings, and the ends send exactly the frames of the trace, in order
pub record Conforms (lengths : Lengths) (t : List Noted) : Type 0 where
  pub lengths_hold : IsTrue (list_all (has_length lengths) t)
  pub ms : MasterSettings
  pub ss : SlaveSettings
  pub settings : AreReadOff lengths t ms ss
  pub sends : sent_in (world ms ss (read_schedule lengths t)) ≡ t

-- a trace conforms, and did so after each of its frames
abbrev pub ConformsThroughout : Lengths → List Noted → Type 0
ConformsThroughout lengths [] = Conforms lengths []
ConformsThroughout lengths (x ∷ t) = Conforms lengths (x ∷ t) × ConformsThroughout lengths t
