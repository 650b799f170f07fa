pub mod Faults
pub mod Fits
pub mod Going
pub mod Opened
pub mod Puts
pub mod Talks
pub mod Whole
