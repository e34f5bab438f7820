pub mod Application
pub mod Bits
pub mod Offer
pub mod Outputs
pub mod Timer
