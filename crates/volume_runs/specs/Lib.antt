pub mod Fits
pub mod Kinds
pub mod Rest
pub mod Run
pub mod Told
