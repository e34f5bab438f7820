pub mod Replayed
pub mod Told
