pub mod Changes
pub mod Keys
pub mod Laws
pub mod Making
pub mod Reading
pub mod Records
pub mod Room
