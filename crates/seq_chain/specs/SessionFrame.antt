-- A frame of a session, with its command known and its safe data at hand.
use Rattle.fsoe_base.specs.declared.command.Command.{Command}
use Rattle.fsoe_frame.specs.Parts.{Frame}

-- the command of a frame, and the frame
pub record SessionFrameView : Type 0 where
  pub command : Command
  pub frame : Frame
