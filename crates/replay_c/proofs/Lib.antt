pub mod Empty
pub mod Past
pub mod Replaying
pub mod Told
