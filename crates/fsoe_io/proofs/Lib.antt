pub mod Grown
pub mod Buffer
pub mod Taken
pub mod Passing
pub mod Reading
pub mod Newline
pub mod Shelves
pub mod Numbers
