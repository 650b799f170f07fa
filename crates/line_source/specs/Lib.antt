pub mod Cause
pub mod Input
pub mod Batch
pub mod Cutting
pub mod Line
pub mod Handed
pub mod Next
