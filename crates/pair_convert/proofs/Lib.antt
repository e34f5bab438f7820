pub mod Conversion
pub mod Common
