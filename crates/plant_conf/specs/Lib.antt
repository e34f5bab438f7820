pub mod Names
pub mod Forms
pub mod Values
pub mod Keys
pub mod Kept
pub mod ConfView
pub mod Meaning
