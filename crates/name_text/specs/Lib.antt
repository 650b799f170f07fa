pub mod Spelling
pub mod Reading
pub mod Printing
pub mod Laws
pub mod PlainAscii
