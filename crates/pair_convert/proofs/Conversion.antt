-- What a pair file is converted to: line by line, as a file of one pair, and what this does.
pub mod Converted
pub mod Converting
pub mod SameLines
pub mod OnePair
pub mod Short
pub mod SameWorld
