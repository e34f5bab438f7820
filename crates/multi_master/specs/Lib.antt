pub mod Calls
pub mod Connection
pub mod New
pub mod Own
pub mod Puts
pub mod Standing
