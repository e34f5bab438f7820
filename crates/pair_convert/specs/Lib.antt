pub mod Convert
pub mod Converting
