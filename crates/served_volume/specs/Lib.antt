pub mod Answering
pub mod Knowing
pub mod Links
pub mod Marking
pub mod Tidying
pub mod Verdicts
pub mod Wanting
