-- A pair of ends over a schedule: a step, its texts, a whole run, and its replay.
pub mod Told
pub mod Heard
pub mod Moved
pub mod Began
pub mod Stepped
pub mod Ran
pub mod EntryLines
pub mod FairReplay
pub mod OneReplay
pub mod Replaying
