pub mod Escapes
pub mod Numbers
pub mod Reads
pub mod Spellings
pub mod Written
