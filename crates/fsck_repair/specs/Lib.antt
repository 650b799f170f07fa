pub mod Bitmap
pub mod Changing
pub mod Counted
pub mod Following
pub mod Leaf
pub mod Once
pub mod Overlay
pub mod Renewing
