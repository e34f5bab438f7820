pub mod Broken
pub mod ByNet
pub mod Cycled
pub mod FairPlant
pub mod Growing
pub mod KeptOff
pub mod Lines
pub mod Masters
pub mod Proper
pub mod Reacting
mod Since
mod SpareApps
mod Traces
pub mod Common
