pub mod Firsts
pub mod Lists
pub mod Making
pub mod Ordered
pub mod Releasing
pub mod Saving
pub mod Slashes
mod Worked
