pub mod Bytes
pub mod Walks
pub mod Touching
pub mod Places
