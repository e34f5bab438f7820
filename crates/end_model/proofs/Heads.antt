-- How the frames of a session begin.
use Rattle.end_model.proofs.Common.{Command, Deed, MasterSettings, Setup, master_answer, phase_of_frame, with_data}
use Rattle.std.proofs.Common.{◌≡◌, List, rules}
use Rattle.fsoe_base.specs.declared.command.State.TheVariants as state
pub use Rattle.end_model.specs.Reactions.{IsInSession}

pub master_frame : (ms : MasterSettings) (e : List Deed) (c : Command) → IsInSession (master_answer ms e c)
master_frame ms e c = search rules

-- a data frame has the phase Data
pub data_phase : (s : Setup) (e : List Deed) → phase_of_frame (with_data s e) ≡ state.Data
data_phase s e = search rules
