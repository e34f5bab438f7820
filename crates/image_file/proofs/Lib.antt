pub mod Common
pub mod Faults
pub mod Slots
pub mod SomePlan
pub mod Tested
pub mod Written
pub mod Zips
