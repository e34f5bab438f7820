pub mod Core
pub mod Standing
