-- The schedule of a number, and its summary.
pub mod Counted
pub mod WholeRuns
pub mod HonestNumber
pub mod Summarizing
pub mod Summed
