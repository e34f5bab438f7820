pub mod Handle
pub mod Ids
pub mod Lent
pub mod Settings
pub mod Told
pub mod Version
