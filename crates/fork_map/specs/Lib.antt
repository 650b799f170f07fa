pub mod Blocks
pub mod Cut
pub mod Nodes
pub mod Cursors
pub mod Sums
