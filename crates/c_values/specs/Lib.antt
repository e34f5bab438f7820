pub mod Numbers
pub mod Place
pub mod Settings
pub mod Told
