pub mod Slots
pub mod Talk
