pub mod Dropping
pub mod Forks
pub mod Frame
pub mod Maps
pub mod Owned
pub mod Values
