pub mod Command
pub mod Counts
