pub mod Acting
mod Cycling
mod Found
mod Linked
pub mod Linking
pub mod Made
mod Offering
mod OneDeed
mod Others
pub mod Pulling
mod QuietTold
mod Readers
pub mod Worlds
pub mod Common
