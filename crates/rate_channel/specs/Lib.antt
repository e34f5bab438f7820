pub mod Rated
pub mod WorkedRated
