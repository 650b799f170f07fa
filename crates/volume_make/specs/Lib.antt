pub mod Refusal
pub mod Layout
pub mod Texts
pub mod Written
pub mod Laws
