pub mod Found
pub mod Mended
pub mod Showing
pub mod Sizes
