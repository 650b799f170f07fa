pub mod Lines
pub mod Lookers
pub mod Resolves
pub mod Walks
