pub mod Ranges
pub mod Laws
pub mod CursorLaws
pub mod KeptBlocks
pub mod SumLaws
