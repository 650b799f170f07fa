pub mod Levels
pub mod Plain
pub mod Taken
pub mod Usage
pub mod WordLists
