pub mod Judging
pub mod Links
pub mod Resources
pub mod Steps
pub mod Wanting
