pub mod Lengths
mod Worked
pub mod Filtered
pub mod Below
