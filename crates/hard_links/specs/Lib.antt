pub mod Identity
pub mod Linking
pub mod Numbers
pub mod Orphans
pub mod Rules
