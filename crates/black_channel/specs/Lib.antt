pub mod Altered
pub mod Calls
pub mod Holds
pub mod Listed
pub mod Told
pub mod Window
pub mod WorkedHolds
