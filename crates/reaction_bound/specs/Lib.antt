pub mod Age
pub mod Ages
pub mod Kept
pub mod Reaction
pub mod WorkedAge
