pub mod Records
pub mod Attributes
pub mod Keys
pub mod Fits
