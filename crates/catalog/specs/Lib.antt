pub mod Children
pub mod Entries
pub mod Maps
pub mod Pairs
pub mod Rooms
