pub mod Answered
pub mod Language
pub mod Lines
pub mod Order
pub mod Shown
pub mod Spelling
pub mod Text
pub mod Written
