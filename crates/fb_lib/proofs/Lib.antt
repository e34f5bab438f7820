pub mod Ticks
pub mod Hands
pub mod Looking
pub mod Calls
pub mod Guarding
