pub mod Pair
pub mod Pairs
pub mod Numbers
pub mod Common
