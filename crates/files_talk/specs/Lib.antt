pub mod Names
pub mod Words
pub mod Untold
pub mod Handing
