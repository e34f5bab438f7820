mod Pairs
mod Taken
pub mod Steps
