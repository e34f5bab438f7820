pub mod ConfigLine
pub mod Names
pub mod Setup
