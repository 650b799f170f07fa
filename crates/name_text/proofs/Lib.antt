pub mod Plain
pub mod Utf16
pub mod Clear
pub mod Scalars
pub mod Spelled
pub mod RoundTrip
pub mod Lengths
pub mod PlainAscii
