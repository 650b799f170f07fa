pub mod Handles
pub mod Keeping
pub mod Lines
pub mod Machine
pub mod Order
pub mod Sessions
