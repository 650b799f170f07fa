pub mod Differing
pub mod Laws
pub mod Recount
pub mod Repair
pub mod RepairLaws
pub mod Remount
pub mod Whole
