-- Several pairs with common ticks: a pair among them, what a header says of them, a step, and their report.
pub mod At
pub mod Sound
pub mod Ticking
pub mod Noted
pub mod Running
pub mod Stepping
pub mod Fit
pub mod Fair
pub mod OneReplay
pub mod EitherVersion
pub mod Begun
pub mod Least
pub mod Ending
