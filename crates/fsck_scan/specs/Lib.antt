pub mod Good
pub mod Read
pub mod Level
pub mod Marks
pub mod Map
pub mod Scan
pub mod Form
