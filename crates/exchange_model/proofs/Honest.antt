-- Why an honest schedule serves. The chains agree but for the frame on its way.
pub mod OnItsWay
pub mod ResetFrames
pub mod Passing
-- Where the handshake stands, and that what the slave joined passes its tests.
pub mod Turns
pub mod Fronts
pub mod UploadTests
-- What follows a frame in turn, at either end.
pub mod SlaveTurn
pub mod MasterTurn
-- The stages of a run, what brings the next one, and what leaves it.
pub mod Stages
pub mod StageSteps
pub mod QuietEvents
-- Along the events of a schedule.
pub mod ServingRuns
