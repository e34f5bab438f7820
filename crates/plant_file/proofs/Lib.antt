pub mod Noting
pub mod Picked
pub mod SetUp
