-- Where a master stands: its phase, and what is due.
use Rattle.std.specs.Prelude.{ℕ, Bool, List, [], Option, Some, None, is_some, if◌then◌else◌}
use Rattle.master_core.specs.declared.phase.Phase.{Phase}
use Rattle.master_core.specs.declared.states.Due.{Due}
use Rattle.master_core.specs.Kit.{KitView}
use Rattle.master_core.specs.Phase.{sent_phase, due_frame}

-- the phase, and what is due while the frame that leads to it is still to be sent
pub record Now : Type 0 where
  pub phase : Phase
  pub due : Option Due

-- a phase whose frame was sent
abbrev pub at_rest : Phase → Now
at_rest p = record { phase = p; due = None }

-- whether a frame is due
abbrev pub is_due : Now → Bool
is_due now = is_some now.due

-- after the frame that is due was sent, if one is
abbrev pub replied : KitView → Now → Now
replied kit now = if is_due now then at_rest (sent_phase kit now.phase) else now

-- the frame that is due in a phase, empty where none is
abbrev pub reply_in : KitView → Phase → Option Due → List ℕ
reply_in kit p None = []
reply_in kit p (Some due) = due_frame due kit p

-- the frame that is due where a master stands, empty where none is
abbrev pub reply : KitView → Now → List ℕ
reply kit now = reply_in kit now.phase now.due
