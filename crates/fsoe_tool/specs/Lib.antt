pub mod Command
pub mod Running
