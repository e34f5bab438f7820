pub mod Doing
pub mod Link
pub mod Making
pub mod Standing
