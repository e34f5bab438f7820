pub mod Move
pub mod Node
pub mod Ran
pub mod Report
