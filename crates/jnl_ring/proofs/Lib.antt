pub mod Bytes
pub mod Wrap
pub mod Pieces
pub mod Placing
pub mod Written
pub mod Texts
pub mod RingLaws
