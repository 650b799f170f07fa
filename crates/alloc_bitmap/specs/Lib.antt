pub mod Kept
pub mod Apart
pub mod Map
pub mod Fork
pub mod Untold
