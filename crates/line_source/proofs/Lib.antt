pub mod Adding
pub mod Cuts
pub mod Fetching
pub mod Reading
pub mod Pieces
pub mod Texts
pub mod Ready
