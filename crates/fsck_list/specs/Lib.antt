pub mod Order
pub mod Kept
pub mod Flat
pub mod Pieces
