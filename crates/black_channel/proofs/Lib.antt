pub mod Forms
pub mod Pulling
pub mod Pushed
