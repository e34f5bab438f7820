pub mod ArrayLaws
pub mod Hex
pub mod Dots
pub mod Documents
