pub mod Fronts
pub mod Ways
mod Worked
